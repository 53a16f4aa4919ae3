use Rattle.std.proofs.Common.{rules, ◌≡◌, ◌∙◌}
use Rattle.std.specs.Prelude.{count_by, nat_eq}
use Rattle.finder.specs.Emoji.{selector}
use Rattle.finder.proofs.Counting.{count_selectors}
use Rattle.finder.proofs.emoji.selectors_in.Goals as goal

pub returns : goal.returns
returns c =
    let e : c.count.result ≡ count_by (λ k. nat_eq k selector) c.args.text.now = search rules in
    e ∙ count_selectors c.args.text.now
