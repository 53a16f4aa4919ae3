-- `nfd_front`: a layout fault, or what `decomposed` answers.
use native.Mathlib.Omega.{arith}
use Rattle.normal_forms.proofs.Answer.{fault_stands, nfd_stands}
use Rattle.normal_forms.proofs.nfd_front.Goals as goal

pub decomposed-requires : goal.decomposed-requires
decomposed-requires c = c.layout-found.ensures.found _ c.in-Some.is

pub returns-in-None : goal.returns-in-None
returns-in-None c = fault_stands _ _ _ _ _ (c.layout-found.ensures.fault c.in-None.is)

pub returns-in-Some : goal.returns-in-Some
returns-in-Some c =
    let d = c in
    let l = d in
    nfd_stands _ _ _ _ _ _ _ (l.layout-found.ensures.found _ l.in-Some.is) _ (omega arith) d.decomposed.ensures
