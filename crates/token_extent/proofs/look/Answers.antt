-- `look`: an emoji where one is found, else one codepoint.
use Rattle.table.specs.Layout.{the_table}
use Rattle.token_extent.proofs.Looking.{look_emoji, look_codepoint}
use Rattle.token_extent.proofs.look.Goals as goal

pub returns-in-Some : goal.returns-in-Some
returns-in-Some c =
    let f = c in
    look_emoji _ _ _ _ f.requires.in_bounds f.find-found.ensures _ c.in-Some.is

pub returns-in-None : goal.returns-in-None
returns-in-None c =
    let e = c in
    let f = e in
    look_codepoint (the_table f.args.words.now) _ _ _ f.requires.in_bounds f.find-found.ensures e.in-None.is
    c.look_alone.result c.look_alone.ensures
