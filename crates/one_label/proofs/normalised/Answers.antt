-- `normalised`: the tokens are put into normal form, or are in it.
use Rattle.one_label.proofs.Judging.{normal_now, normal_already}
use Rattle.one_label.proofs.normalised.Goals as goal

pub returns-in-None : goal.returns-in-None
returns-in-None c =
    let m = c.normalise.ensures in
    record { normalised = normal_now _ _ _ _ c.in-None.is c.requires.least_work_in_bounds.1 _ _ m.normal_cells; unpaired_2 = m.unpaired_2 }

pub returns-in-Some : goal.returns-in-Some
returns-in-Some c =
    record { normalised = normal_already _ _ _ _ _ c.in-Some.is c.requires.least_work_in_bounds.2; unpaired_2 = c.requires.unpaired }
