-- What is seen of a section of records.
use Rattle.std.specs.Prelude.{ℕ, ◌≡◌, true, List, length}
use Rattle.lists.specs.Lists.{is_some}
use Rattle.table.specs.Layout.{headed, sequences}
use Rattle.heads.specs.Heads.{HeadsRise, HeadsKnown}
use Rattle.firsts.specs.Firsts.{FirstsSteady, FirstsKnown}
use Rattle.seen_parts.specs.declared.HeadsSeen.{HeadsSeen}
use Rattle.seen_parts.specs.declared.FirstsSeen.{FirstsSeen}

pub record SeesHeads (part : List ℕ) (most : ℕ) (r : HeadsSeen) : Type 0 where
  pub fits : r.fits ≡ is_some (headed (length part) most part)
  pub known : r.fits ≡ true → HeadsKnown part r.sorted r.marks
  pub found : r.fits ≡ true → HeadsRise part → r.sorted ≡ true

pub record SeesFirsts (part : List ℕ) (r : FirstsSeen) : Type 0 where
  pub fits : r.fits ≡ is_some (sequences (length part) part)
  pub known : r.fits ≡ true → FirstsKnown part r.sorted r.places r.numbers
  pub found : r.fits ≡ true → FirstsSteady part → r.sorted ≡ true
