-- `nfc_front`: a layout fault, a refusal of `decomposed`, or what it leaves, composed in its place.
use native.Mathlib.Omega.{arith}
use mathlib.Core.Path.{refl, sym}
use lib.Seq.{length-take-le}
use Rattle.std.proofs.Common.{rules, Err, ◌≡◌}
use Rattle.table.specs.Layout.{the_table}
use Rattle.text.specs.Composition.{nfc}
use Rattle.full_decomposition.specs.Promise.{Ordered}
use Rattle.full_decomposition.proofs.Placing.{standing_formed, ordered_ready}
use Rattle.normal_forms.proofs.Answer.{fault_stands, refused_stands, composed_stands}
use Rattle.normal_forms.proofs.nfc_front.Goals as goal
use Rattle.normal_forms.proofs.nfc_front.Goals.{After-compose-arg-1, After-slice_known-5-1, After-unpaired-3-1}

-- NFD and its classes stand there-at-After-unpaired-3-1, once the match has said so
there-at-After-unpaired-3-1 : (c : After-unpaired-3-1) → let a = c.args in let d = c.decomposed in
    Ordered (the_table a.words.now) a.text.now a.answer.now d.new.answer a.work.now d.new.work c.in_ok-n.n
there-at-After-unpaired-3-1 c = standing_formed _ _ _ _ _ _ _ _ c.in_ok-n.was c.decomposed.ensures

-- NFD and its classes stand there-at-After-compose-arg-1, once the match has said so
there-at-After-compose-arg-1 : (c : After-compose-arg-1) → let a = c.args in let d = c.decomposed in
    Ordered (the_table a.words.now) a.text.now a.answer.now d.new.answer a.work.now d.new.work c.in_ok-n.n
there-at-After-compose-arg-1 c = standing_formed _ _ _ _ _ _ _ _ c.in_ok-n.was c.decomposed.ensures

-- NFD and its classes stand there-at-After-slice_known-5-1, once the match has said so
there-at-After-slice_known-5-1 : (c : After-slice_known-5-1) → let a = c.args in let d = c.decomposed in
    Ordered (the_table a.words.now) a.text.now a.answer.now d.new.answer a.work.now d.new.work c.in_ok-n.n
there-at-After-slice_known-5-1 c = standing_formed _ _ _ _ _ _ _ _ c.in_ok-n.was c.decomposed.ensures

pub returns-in_default : goal.returns-in_default
returns-in_default c = fault_stands _ _ _ _ _ (c.layout-found.ensures.fault c.in_default.is)

pub decomposed-requires : goal.decomposed-requires
decomposed-requires c = c.layout-found.ensures.found _ c.in-Some.is

pub returns-in_err-n : goal.returns-in_err-n
returns-in_err-n c =
    let told = refused_stands _ _ _ _ _ _ _ (c.layout-found.ensures.found _ c.in-Some.is) nfc _ _ c.in_err-n.was (omega arith) c.decomposed.ensures in
    let same : c.from_residual.result ≡ Err c.in_err-n.field-0.0 = search rules in
    rw same told

pub index_pairs-requires : goal.index_pairs-requires
index_pairs-requires c = record { laid = c.layout-found.ensures.found _ c.in-Some.is; unpaired_value = refl }

pub slice_bounds-compose-end : goal.slice_bounds-compose-end
slice_bounds-compose-end c = sym c.index_pairs.ensures.size

pub slice_bounds-compose-end-2 : goal.slice_bounds-compose-end-2
slice_bounds-compose-end-2 c = (there-at-After-unpaired-3-1 c).room

pub slice_bounds-compose-end-3 : goal.slice_bounds-compose-end-3
slice_bounds-compose-end-3 c = sym (length-take-le _ _ (there-at-After-compose-arg-1 c).room)

pub slice_bounds-compose-end-4 : goal.slice_bounds-compose-end-4
slice_bounds-compose-end-4 c = (there-at-After-compose-arg-1 c).work-room

pub slice_bounds-compose-end-5 : goal.slice_bounds-compose-end-5
slice_bounds-compose-end-5 c = sym (length-take-le _ _ (there-at-After-compose-arg-1 c).work-room)

pub compose-left-requires : goal.compose-left-requires
compose-left-requires c =
    record { laid = c.layout-found.ensures.found _ c.in-Some.is; unpaired = c.index_pairs.ensures; ready = ordered_ready _ _ _ _ _ _ _ (there-at-After-compose-arg-1 c) }

pub returns : goal.returns
returns c =
    composed_stands _ _ _ _ _ _ _ (c.layout-found.ensures.found _ c.in-Some.is) _ _ _ (omega arith) (there-at-After-slice_known-5-1 c) c.compose-left.ensures.composed_into
