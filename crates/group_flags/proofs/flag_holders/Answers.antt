-- `flag_holders` meets its contract: the section is that of the table.
use Rattle.std.proofs.Common.{rules}
use Rattle.sections.proofs.SectionLaws.{laid-fits}
use Rattle.sections.proofs.LaidParts.{laid_part, laid_same}
use Rattle.group_flags.proofs.flag_holders.Goals as goal

pub of-requires : goal.of-requires
of-requires g c = (laid-fits _ _ c.requires).groups

pub flag_in-requires : goal.flag_in-requires
flag_in-requires g c =
    (search rules, (rw c.of.ensures (laid_part _ _ c.requires), rw c.of.ensures c.requires.known.groups))

pub returns : goal.returns
returns g c = rw (← laid_same _ _ c.requires, ← c.of.ensures) c.flag_in.ensures
