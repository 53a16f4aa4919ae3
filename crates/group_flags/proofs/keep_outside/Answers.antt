-- `keep_outside` meets its contract: the section is that of the table.
use mathlib.Core.Path.{◌≡◌, ◌∙◌, sym}
use lib.ListN.{get_or}
use Rattle.std.proofs.Common.{rules, tests}
use Rattle.sections.proofs.SectionLaws.{laid-fits}
use Rattle.sections.proofs.LaidParts.{laid_part, laid_same}
use Rattle.group_flags.specs.Flags.{is_apart, number_in}
use Rattle.group_flags.proofs.FlagWalks.{apart-length, apart_told}
use Rattle.group_flags.proofs.keep_outside.Goals as goal

pub of-requires : goal.of-requires
of-requires g c = (laid-fits _ _ c.requires.laid).groups

pub own_number-own-requires : goal.own_number-own-requires
own_number-own-requires g c =
    let p = c.requires in
    record { groups_part = (rw c.of.ensures (laid_part _ _ p.laid), rw c.of.ensures p.laid.known.groups); k_len = p.k_len }

pub returns : goal.returns
returns g c =
    let own = number_in c.own_number-own.result in
    let k = c.args.k.now in
    record {
      own = own;
      number = rw (← laid_same _ _ c.requires.laid, ← c.of.ensures) c.own_number-own.ensures;
      flags =
          c.keep_where.ensures _ (apart-length own k ∙ c.requires.k_len)
          (λ i b h e.
          let told : b ≡ is_apart own (get_or k i 0) = search (rules, tests) in
          told ∙ sym (apart_told own k i));
    }
