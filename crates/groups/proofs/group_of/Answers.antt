-- `groups::group_of` meets its contract: the section is that of the table.
use Rattle.sections.proofs.SectionLaws.{laid-fits}
use Rattle.sections.proofs.LaidParts.{laid_part, laid_same}
use Rattle.groups.proofs.group_of.Goals as goal

pub of-requires : goal.of-requires
of-requires c = (laid-fits _ _ c.requires.laid).groups

pub group_in-requires : goal.group_in-requires
group_in-requires c =
    let p = c.requires in
    record { groups_part = (rw c.of.ensures (laid_part _ _ p.laid), rw c.of.ensures p.laid.known.groups); text_len_bound = p.text_len_bound }

pub returns : goal.returns
returns c = rw (← laid_same _ _ c.requires.laid, ← c.of.ensures) c.group_in.ensures
