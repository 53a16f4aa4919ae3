-- `which_emoji`: a layout fault, a match, or none.
use Rattle.emoji_call.proofs.Telling.{told-fault, told-found, told-none}
use Rattle.emoji_call.proofs.which_emoji.Goals as goal

pub returns-in_default : goal.returns-in_default
returns-in_default c = told-fault _ _ _ (c.layout.ensures.fault c.in_default.is)

pub find-requires : goal.find-requires
find-requires c = c.layout.ensures.found _ c.in-Some.is

pub returns-in_default-find : goal.returns-in_default-find
returns-in_default-find c = told-none _ _ _ (c.layout.ensures.found _ c.in-Some.is) _ c.find.ensures c.in_default-find.is

pub returns : goal.returns
returns c = told-found _ _ _ (c.layout.ensures.found _ c.in-Some.is) _ c.find.ensures _ c.in-Some-find.is
