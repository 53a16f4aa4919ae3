-- `groups::group` meets its contract: 1, then 3, then the search.
use Rattle.sections.specs.Laid.{Laid}
use Rattle.groups.proofs.CallLaws.{call_fault, call_long, call_searched}
use Rattle.groups.proofs.group.Goals as goal

pub returns-then-text-gt-MOST_INPUT : goal.returns-then-text-gt-MOST_INPUT
returns-then-text-gt-MOST_INPUT c =
    call_long _ _ _ ((let it : Laid c.args.words.now c.in-Some.ix = c.layout.ensures.found _ c.in-Some.is in it)) c.if-text-gt-MOST_INPUT.true

pub group_of-requires : goal.group_of-requires
group_of-requires c =
    record { laid = (let it : Laid c.args.words.now c.in-Some.ix = c.layout.ensures.found _ c.in-Some.is in it); text_len_bound = c.if-text-gt-MOST_INPUT.false }

pub returns-in_default : goal.returns-in_default
returns-in_default c = call_fault _ _ (c.layout.ensures.fault c.in_default.is)

pub returns : goal.returns
returns c =
    call_searched _ _ _ ((let it : Laid c.args.words.now c.in-Some.ix = c.layout.ensures.found _ c.in-Some.is in it)) c.if-text-gt-MOST_INPUT.false _ c.group_of.ensures
