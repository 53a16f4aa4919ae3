-- Laws of the search for the first group that holds a text: what was asked so far, in the group at hand and in those before.
use Prim.Native.Nat.{ℕ, suc, ◌+◌, ◌*◌, ◌<◌, ◌≤◌}
use native.Mathlib.Numerals.{add-one}
use native.Mathlib.Omega.{arith}
use mathlib.Core.Path.{◌≡◌, refl, sym, ◌∙◌, ap}
use mathlib.Core.Bool.{Bool, true, false, not}
use mathlib.Core.List.{List, [], ◌∷◌}
use lib.ListN.{length, get_or, drop, drop_of_length-le}
use Rattle.limits.specs.Limits.{most_input}
use Rattle.lists.specs.Lists.{all}
use Rattle.table.specs.declared.GroupRecord.{GroupRecord}
use Rattle.table.specs.Table.{Group}
use Rattle.table.specs.Spans.{within}
use Rattle.table.specs.Lookup.{holds}
use Rattle.table.specs.Part.{in_pairs}
use Rattle.table.specs.GroupPart.{groups_in, GroupsPart, group_at}
use Rattle.table.proofs.Lookups.{drop-next, all_same}
use Rattle.table.proofs.GroupWalks.{GroupWalk, group_start, group-stop, group_here, group_here_lem, pairs_hold, group_on}
use Rattle.std.specs.Prelude.{Some, None}
use Rattle.groups.specs.Bound.{asked_in_fewer}
use Rattle.groups.specs.Groups.{holds_all, group_from, group_of, up_to, asked_in, asked, search_of}

-- In one group: its test p passed at the first i places, and one question was asked at each, a₀ before them.
pub record Asking (p : ℕ → Bool) (s : List ℕ) (a₀ a i : ℕ) : Type 0 where
  pub inside : i ≤ length s
  pub held : all p s ≡ all p (drop i s)
  pub places : length (up_to (λ c. not (p c)) s) ≡ i + length (up_to (λ c. not (p c)) (drop i s))
  pub count : a ≡ a₀ + i

-- what was asked in it, where it holds all (b) or not, a being asked in all
pub record Left (p : ℕ → Bool) (s : List ℕ) (a₀ a : ℕ) (b : Bool) : Type 0 where
  pub held : all p s ≡ b
  pub count : a ≡ a₀ + length (up_to (λ c. not (p c)) s)

module _ (p : ℕ → Bool) (s : List ℕ) (a₀ : ℕ) where
  pub ask_start : Asking p s a₀ a₀ 0
  ask_start = record { inside = omega arith; held = refl; places = omega arith; count = omega arith }

  module _ (a i : ℕ) (w : Asking p s a₀ a i) where
    pub ask_stop : length s ≤ i → Left p s a₀ a true
    unfolding up_to
    ask_stop h =
        let none : drop i s ≡ [] = drop_of_length-le s h in
        let n : length (up_to (λ c. not (p c)) s) ≡ i + 0 = rw none at w.places in
        record { held = rw none at w.held; count = omega (arith, w.count) }

    module _ (h : i < length s) where
      pub ask_on : p (get_or s i 0) ≡ true → Asking p s a₀ (a + 1) (i + 1)
      unfolding up_to
      ask_on e =
          let n : length (up_to (λ c. not (p c)) s) ≡ i + suc (length (up_to (λ c. not (p c)) (drop (i + 1) s))) =
          rw (drop-next s i h, e) at w.places in
          record { inside = omega arith; held = rw (drop-next s i h, e) at w.held; places = omega arith; count = omega (arith, w.count) }

      pub ask_missing : p (get_or s i 0) ≡ false → Left p s a₀ (a + 1) false
      unfolding up_to
      ask_missing e =
          let n : length (up_to (λ c. not (p c)) s) ≡ i + 1 = rw (drop-next s i h, e) at w.places in
          record { held = rw (drop-next s i h, e) at w.held; count = omega (arith, w.count) }

-- tests that agree leave the same elements
up_to-same : (p q : ℕ → Bool) → ((c : ℕ) → p c ≡ q c) → (s : List ℕ) → up_to (λ c. not (p c)) s ≡ up_to (λ c. not (q c)) s
unfolding up_to
up_to-same p q e [] = refl
up_to-same p q e (c ∷ s) = rw (e c, up_to-same p q e s)

-- The groups before number n lack a character of the text, and a questions were asked in them.
pub record Lacking (part text : List ℕ) (n a : ℕ) (left : List Group) : Type 0 where
  pub found : group_from n left text ≡ group_of (groups_in part) text
  pub count : a + asked left text ≡ asked (groups_in part) text

pub record Searching (part text : List ℕ) (n at a : ℕ) : Type 0 where
  pub groups : GroupWalk part n at (Lacking part text n a)
  pub few : a ≤ n * most_input

module _ (part text : List ℕ) where
  pub lacking_start : GroupsPart part → Searching part text 0 0 0
  unfolding group_of
  lacking_start g =
      record { groups = group_start part (Lacking part text 0 0) g (record { found = refl; count = omega arith }); few = omega arith }

  module _ (n at a : ℕ) (w : Searching part text n at a) where
    pub lacking_stop : length part ≤ at → record { found = None; asked = a } ≡ search_of (groups_in part) text
    unfolding group_from up_to asked
    lacking_stop h =
        let q = group-stop part n at (Lacking part text n a) w.groups h in
        let e : a ≡ asked (groups_in part) text = omega (arith, q.count) in
        rw (← q.found, e)

    module _ (h : at < length part) (v : GroupRecord) (e : v ≡ group_at part at) where
      abbrev here : Group
      here = group_here part n at (Lacking part text n a) w.groups h

      abbrev test : ℕ → Bool
      test c = in_pairs c (within v.pairs part)

      same : (c : ℕ) → test c ≡ holds here c
      same = pairs_hold part n at (Lacking part text n a) w.groups h v e

      held : all test text ≡ holds_all text here
      held = all_same test (holds here) same text

      asks : length (up_to (λ c. not (test c)) text) ≡ asked_in text here
      unfolding asked_in
      asks = ap length (up_to-same test (holds here) same text)

      pub lacking_on : length text ≤ most_input → (a' : ℕ) → Left test text a a' false → Searching part text (n + 1) v.next a'
      unfolding group_from up_to asked
      lacking_on short a' l =
          let k : holds_all text here ≡ false = sym held ∙ l.held in
          record {
            groups =
                group_on part n at (Lacking part text n a) w.groups h v e (Lacking part text (n + 1) a')
                (λ rest q.
                let c : a + asked (here ∷ rest) text ≡ asked (groups_in part) text = q.count in
                let one : asked (here ∷ rest) text ≡ asked_in text here + asked rest text = rw k in
                record { found = rw add-one (rw k at q.found); count = omega (arith, l.count, asks) });
            few = omega (arith, w.few, l.count, asks, asked_in_fewer text here);
          }

      pub lacking_hit : (a' : ℕ) → Left test text a a' true
          → record { found = Some (record { number = n; restricted = v.restricted; whitelisted = v.whitelisted }); asked = a' } ≡ search_of (groups_in part) text
      unfolding group_from up_to asked
      lacking_hit a' l =
          let k : holds_all text here ≡ true = sym held ∙ l.held in
          let q = w.groups.so in
          let split = (group_here_lem part n at (Lacking part text n a) w.groups h).split in
          let rest = (group_here_lem part n at (Lacking part text n a) w.groups h).rest in
          let found : group_from n (here ∷ rest) text ≡ group_of (groups_in part) text = rw split at q.found in
          let count : a + asked (here ∷ rest) text ≡ asked (groups_in part) text = rw split at q.count in
          let one : asked (here ∷ rest) text ≡ asked_in text here + 0 = rw k in
          let is : a' ≡ asked (groups_in part) text = omega (arith, l.count, asks) in
          rw (e, is, ← (rw k at found))
