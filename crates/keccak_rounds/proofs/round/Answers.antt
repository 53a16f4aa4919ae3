-- `round`: the five steps one after another.
use Rattle.keccak_rounds.proofs.Rounds.{steps}
use Rattle.keccak_rounds.proofs.round.Goals as goal

pub returns : goal.returns
returns c =
    steps _ _ _ _ _ _ _
    c.theta-t.ensures
    c.rho-r.ensures
    c.pi-p.ensures
    c.chi-c.ensures
    c.iota.ensures
