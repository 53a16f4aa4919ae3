-- `report`: each way out is a law of what the name was judged and what was written.
use Prim.Native.Nat.{ℕ}
use native.Mathlib.Omega.{arith}
use mathlib.Core.Path.{refl, ap, ◌∙◌}
use lib.ListN.{replicate}
use Rattle.report.proofs.Calling.{call_refused, call_none, call_ready, call_over, call_written, written_place}
use Rattle.report.proofs.report.Goals as goal

pub returns-then-accepted-eq0 : goal.returns-then-accepted-eq0
returns-then-accepted-eq0 c =
    let a = c.args in
    let j = c.judge_name-judged in
    call_none _ _ _ _ _ a.out.now a.work.now _ j.result j.ensures _ _ (c.clear.ensures ∙ ap (λ (n : ℕ). replicate n 0) j.ensures.same-work) _
    c.in-Ok.is c.if-accepted-eq0.true (c.fill.ensures.after (λ y e. e))

pub write_report-sink-requires : goal.write_report-sink-requires
write_report-sink-requires c =
    let a = c.args in
    let j = c.judge_name-judged in
    call_ready _ _ _ _ _ a.out.now a.work.now _ j.result j.ensures _ _ c.in-Ok.is (omega (arith, c.if-accepted-eq0.false))

pub returns-in-None : goal.returns-in-None
returns-in-None c =
    let a = c.args in
    let j = c.judge_name-judged in
    let w = c.write_report-sink in
    let cleared = c.clear-in-Ok.ensures ∙ ap (λ (n : ℕ). replicate n 0) (w.auto.w ∙ j.ensures.same-work) in
    call_over _ _ _ _ _ a.out.now a.work.now _ j.result j.ensures _ _ c.in-Ok.is (omega (arith, c.if-accepted-eq0.false)) _ _ _ w.ensures _ cleared c.in-None.is
    (c.fill-in-None.ensures.after (λ y e. e))

pub slice_bounds-fill-start : goal.slice_bounds-fill-start
slice_bounds-fill-start c = written_place _ _ _ _ c.write_report-sink.ensures _ c.in-Some.is

pub returns-in-Some : goal.returns-in-Some
returns-in-Some c =
    let a = c.args in
    let j = c.judge_name-judged in
    let w = c.write_report-sink in
    let cleared = c.clear-in-Ok.ensures ∙ ap (λ (n : ℕ). replicate n 0) (w.auto.w ∙ j.ensures.same-work) in
    call_written _ _ _ _ _ a.out.now a.work.now _ j.result j.ensures _ _ c.in-Ok.is (omega (arith, c.if-accepted-eq0.false)) _ _ _ w.ensures _ cleared _ c.in-Some.is _
    (c.fill-in-Some.ensures.after (λ y e. e)) refl

pub returns-in-Err : goal.returns-in-Err
returns-in-Err c =
    let a = c.args in
    let j = c.judge_name-judged in
    call_refused _ _ _ _ _ a.out.now a.work.now _ j.result j.ensures _ _ (c.clear-in-Err.ensures ∙ ap (λ (n : ℕ). replicate n 0) j.ensures.same-work) _ c.in-Err.is
    (c.fill-in-Err.ensures.after (λ y e. e))
