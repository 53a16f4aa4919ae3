use Prim.Native.Nat.{◌+◌}
use mathlib.Core.Path.{sym, ◌∙◌}
use mathlib.Core.Bool.{false≢true}
use borrow.Author.Tests.{not-true}
use Rattle.table.specs.Layout.{the_table}
use Rattle.sections.proofs.SectionLaws.{laid_reads}
use Rattle.lookalike.specs.Respelling.{may_respell}
use Rattle.lookalike.proofs.RespellingLaws.{passed_start, passed_on, ruled}
use Rattle.lookalike.proofs.ruled_out.Goals as goal

pub loop-c-init : goal.loop-c-init
loop-c-init c =
    passed_start (λ b. b) (the_table c.args.words.now) c.args.text.now (may_respell (the_table c.args.words.now)) (laid_reads _ _ c.requires.laid).few

pub rule_out-requires : goal.rule_out-requires
rule_out-requires c =
    let p = c.requires in
    record { laid = p.laid; filter = p.filter }

pub returns-then-not-any_set : goal.returns-then-not-any_set
returns-then-not-any_set c =
    let l = c.loop-c in
    λ _. ruled (the_table c.args.words.now) c.args.text.now _ (l.c-index + 1)
    (passed_on (λ b. b) (the_table c.args.words.now) c.args.text.now (may_respell (the_table c.args.words.now)) _ _ l.c-index c.loop-c-test.true l.invariant c.rule_out.ensures)
    (sym c.any_set.ensures ∙ not-true _ c.if-not-any_set.true-raw)

pub loop-c-preserved : goal.loop-c-preserved
loop-c-preserved c =
    let l = c.loop-c in
    passed_on (λ b. b) (the_table c.args.words.now) c.args.text.now (may_respell (the_table c.args.words.now)) _ _ l.c-index c.loop-c-test.true l.invariant c.rule_out.ensures

pub returns : goal.returns
returns c = λ e. absurd (false≢true e)
