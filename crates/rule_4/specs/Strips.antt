-- What the check asks of emoji sequences, given by their items with FE0F among them.
use Rattle.std.specs.Prelude.{ℕ, ◌≤◌, ◌<◌, ◌≡◌, Bool, true, false, not, ◌&&◌, List, map, length, get_or, take, drop, eqb}
use Rattle.lists.specs.Lists.{mem, same_list, distinct_lists}
use Rattle.firsts.specs.Firsts.{steady}
use Rattle.records.specs.Left.{lists_left}
use Rattle.finder.specs.Emoji.{selector, strip}
use Rattle.soundness.specs.Sequences.{starts_with, two_selectors}

-- the first part of rule 4, of one sequence
abbrev pub plain_sequence : List ℕ → Bool
plain_sequence s = not (mem 0x2E s) && not (starts_with selector s) && not (two_selectors s)

-- two sequences are equal when stripped
unfoldable pub same_stripped : List ℕ → List ℕ → Bool
unfolding strip
same_stripped a b = same_list (strip a) (strip b)

-- stripped, no two are equal
unfoldable pub distinct_stripped : List (List ℕ) → Bool
unfolding strip
distinct_stripped ss = distinct_lists (map strip ss)

-- the place, from i on, of the first item that is not FE0F, or the end
pub record NextItem (s : List ℕ) (i r : ℕ) : Type 0 where
  pub low : i ≤ r
  pub inside : r ≤ length s
  pub skipped : strip (take i s) ≡ strip (take r s)
  pub same : strip (drop i s) ≡ strip (drop r s)
  pub item : r < length s → eqb (get_or s r 0) selector ≡ false

-- sequences are sorted, and the items start with one that is not FE0F
pub record Bounded (sorted : Bool) (s : List ℕ) : Type 0 where
  pub steady : sorted ≡ true
  pub some : 0 < length s
  pub plain : get_or s 0 0 ≡ selector → ⊥

-- the first items of the sequences that the words hold do not fall, none of them FE0F, where `sorted` says so
abbrev pub Steady : Bool → List ℕ → Type 0
Steady sorted part = sorted ≡ true → steady 0 (lists_left part) ≡ true
