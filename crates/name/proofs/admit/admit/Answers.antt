-- `admit`: each return is one end of the tests 1 to 4.
use Rattle.name.proofs.Admitting.{admitted-fault, admitted-work, admitted_long, admitted_scalar, admitted-all}
use Rattle.name.proofs.admit.admit.Goals as goal

pub returns-then-work-lt-LEAST_WORK : goal.returns-then-work-lt-LEAST_WORK
returns-then-work-lt-LEAST_WORK c = admitted-work _ _ _ _ (c.layout.ensures.found _ c.in-Some.is) c.if-work-lt-LEAST_WORK.true

pub returns-then-input-gt-MOST_INPUT : goal.returns-then-input-gt-MOST_INPUT
returns-then-input-gt-MOST_INPUT c =
    admitted_long _ _ _ _ (c.layout.ensures.found _ c.in-Some.is) c.if-work-lt-LEAST_WORK.false c.if-input-gt-MOST_INPUT.true

pub returns-in_default : goal.returns-in_default
returns-in_default c = admitted-fault _ _ _ (c.layout.ensures.fault c.in_default.is)

pub returns-in-Some-first_not_scalar : goal.returns-in-Some-first_not_scalar
returns-in-Some-first_not_scalar c =
    admitted_scalar _ _ _ _ (c.layout.ensures.found _ c.in-Some.is) c.if-work-lt-LEAST_WORK.false c.if-input-gt-MOST_INPUT.false _
    (rw c.in-Some-first_not_scalar.is at c.first_not_scalar.ensures)

pub returns-in-None : goal.returns-in-None
returns-in-None c =
    admitted-all _ _ _ _ (c.layout.ensures.found _ c.in-Some.is) c.if-work-lt-LEAST_WORK.false c.if-input-gt-MOST_INPUT.false
    (rw c.in-None.is at c.first_not_scalar.ensures)
