-- `lookalike::keep_holding` meets its contract: the test tells the flags of the groups that hold the character, or of the others.
use mathlib.Core.Path.{◌≡◌, ◌∙◌}
use lib.ListN.{get_or}
use Rattle.std.specs.Bool.{beq}
use mathlib.Core.Bool.{false}
use Rattle.std.proofs.Common.{rules, tests}
use Rattle.table.specs.Layout.{the_table}
use Rattle.sections.proofs.SectionLaws.{laid_reads}
use Rattle.lookalike.proofs.RespellingLaws.{holders_told, holding_length}
use Rattle.lookalike.proofs.keep_holding.Goals as goal

pub returns : goal.returns
returns g c =
    let t = the_table c.args.words.now in
    let few = (laid_reads _ _ c.requires).few in
    let found = c.flag_holders.new.flags in
    c.keep_where.ensures _ (holding_length t c.args.c few c.args.held)
    (λ i b h e.
    let told : b ≡ beq (get_or found i false) c.args.held = search (rules, tests) in
    told ∙ holders_told t c.args.c few c.args.held found c.flag_holders.ensures i h)
