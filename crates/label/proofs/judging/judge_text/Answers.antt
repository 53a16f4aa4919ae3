-- `label::judging::judge_text` meets its contract: the group of the text alone, and the verdict in it.
use mathlib.Core.Path.{ap}
use Rattle.groups.specs.declared.GroupSearch.{GroupSearch}
use Rattle.label.proofs.JudgingLaws.{judged-none, judged-in_group}
use Rattle.compounds.proofs.CompoundLaws.{laid_white}
use Rattle.label.proofs.judging.judge_text.Goals as goal

pub returns-in-Some : goal.returns-in-Some
returns-in-Some c =
    let found = c.group_of.ensures in
    let alone = c.text_alone-m.ensures in
    let w = c.judge_in_group.ensures in
    record { cells_judged = judged-in_group _ _ _ _ _ _ alone _ (ap (λ (x : GroupSearch). x.found) found) (laid_white _ _ c.requires.laid) _ c.in-Some.is _ w.result_value; memo_2 = w.memo_2 }

pub returns-in-None : goal.returns-in-None
returns-in-None c =
    let found = c.group_of.ensures in
    let alone = c.text_alone-m.ensures in
    record { cells_judged = judged-none _ _ _ _ _ _ alone _ (ap (λ (x : GroupSearch). x.found) found) c.in-None.is; memo_2 = c.requires.memo }
