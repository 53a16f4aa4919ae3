-- What rules 4 and 5 of soundness say of emoji sequences.
use Prim.Native.Nat.{ℕ, ◌≤◌}
use Rattle.std.proofs.Common.{arith, sym, ap, ◌∙◌, ne_eqb}
use Rattle.std.specs.Prelude.{◌≡◌, true, false, ◌&&◌, ◌||◌, length, eqb}
use Rattle.std.proofs.Math.Bool.{Bool, not}
use mathlib.Core.List.Memᴰ
use mathlib.Core.List.{List, [], ◌∷◌, ◌++◌, map, append_assoc, append-nil}
use mathlib.Core.List.{Memᴰ}
use Rattle.std.proofs.lemmas.Bool.{not-true, eqb-false}
use Rattle.lists.specs.Lists.{all, distinct_lists, mem, same_list}
use Rattle.lists.specs.Laws.{Every, all_every, every_member, every_of_all, both_left, both_right, keep_member}
use Rattle.lists.specs.Members.{passing_any}
use Rattle.lists.specs.Elements.{list_same, keep_append}
use Rattle.table.specs.Table.{Table}
use Rattle.finder.specs.Emoji.{selector, strip}
use Rattle.soundness.specs.Sequences.{starts_with, two_selectors, stripped_emoji, one_valid, is_stripped, can_start, starts_apart, apart, rule4, rule5}
use Rattle.idempotence.specs.Rules.{Sound}

-- Stripping

pub strip_append : (a b : List ℕ) → strip (a ++ b) ≡ strip a ++ strip b
unfolding strip
strip_append a b = keep_append (λ c. not (eqb c selector)) a b

pub strip_cons : (c : ℕ) (s : List ℕ) → eqb c selector ≡ false → strip (c ∷ s) ≡ c ∷ strip s
unfolding strip
strip_cons c s h = rw h

-- what is left after stripping stood there before
pub strip_member : (s : List ℕ) (c : ℕ) → Memᴰ c (strip s) → Memᴰ c s
unfolding strip
strip_member s c m = (keep_member (λ x. not (eqb x selector)) s c m).0

pub strip_every : (P : ℕ → Type 0) (s : List ℕ) → Every P s → Every P (strip s)
unfolding strip
strip_every P s h = every_of_all P (strip s) (λ c m. every_member P s h (strip_member s c m))

pub other_first : (a b : ℕ) → eqb a b ≡ false → eqb b a ≡ false
other_first a b h = ne_eqb b a (λ e. eqb-false a b h (sym e))

-- a sequence that does not start with FE0F keeps its first codepoint
pub strip-some : (s : List ℕ) → starts_with selector s ≡ false → 1 ≤ length s → 1 ≤ length (strip s)
strip-some [] h k = absurd (omega arith)
strip-some (c ∷ s) h k = rw (strip_cons c s (other_first selector c h)) (omega arith)

-- Rule 4

module _ (t : Table) (s : Sound t) (seq : List ℕ) (m : Memᴰ seq t.emoji) where
  rule4_here : (not (mem 0x2E seq) && not (starts_with selector seq) && not (two_selectors seq)) ≡ true
  unfolding rule4
  rule4_here =
      let test : List ℕ → Bool = λ q. not (mem 0x2E q) && not (starts_with selector q) && not (two_selectors q) in
      let every = all_every test t.emoji (both_left (all test t.emoji) (distinct_lists (stripped_emoji t)) s.rule_4) in
      every_member (λ (q : List ℕ). test q ≡ true) t.emoji every m

  pub no_stop : mem 0x2E seq ≡ false
  no_stop =
      let ab = both_left (not (mem 0x2E seq) && not (starts_with selector seq)) (not (two_selectors seq)) rule4_here in
      not-true (mem 0x2E seq) (both_left (not (mem 0x2E seq)) (not (starts_with selector seq)) ab)

  pub no_selector-first : starts_with selector seq ≡ false
  no_selector-first =
      let ab = both_left (not (mem 0x2E seq) && not (starts_with selector seq)) (not (two_selectors seq)) rule4_here in
      not-true (starts_with selector seq) (both_right (not (mem 0x2E seq)) (not (starts_with selector seq)) ab)

  pub no_two_selectors : two_selectors seq ≡ false
  no_two_selectors =
      not-true (two_selectors seq) (both_right (not (mem 0x2E seq) && not (starts_with selector seq)) (not (two_selectors seq)) rule4_here)

  -- Rule 5

  rule5_here : (not (one_valid t (strip seq)) && apart t (strip seq)) ≡ true
  unfolding rule5 stripped_emoji
  rule5_here =
      let test : List ℕ → Bool = λ q. not (one_valid t q) && apart t q in
      every_member (λ (q : List ℕ). test q ≡ true) (map strip t.emoji) (all_every test (map strip t.emoji) s.rule_5) (Memᴰ.map strip m)

  pub not_one-valid : one_valid t (strip seq) ≡ false
  not_one-valid = not-true (one_valid t (strip seq)) (both_left (not (one_valid t (strip seq))) (apart t (strip seq)) rule5_here)

  -- the list is one of the stripped sequences
  pub is_stripped_lem : is_stripped t (strip seq) ≡ true
  unfolding stripped_emoji
  is_stripped_lem = passing_any (same_list (strip seq)) (Memᴰ.map strip m) (list_same (strip seq))

-- the next codepoint behind a proper start
starts_apart_lem : (t : Table) (p a : List ℕ) (c : ℕ) (q : List ℕ) → starts_apart t p (a ++ c ∷ q) ≡ true → (is_stripped t (p ++ a) || one_valid t (p ++ a)) ≡ true → can_start t c ≡ false
unfolding starts_apart
starts_apart_lem t p [] c q h k =
    let start : (is_stripped t p || one_valid t p) ≡ true = rw (append-nil p) at k in
    let here : not ((is_stripped t p || one_valid t p) && can_start t c) ≡ true = both_left (not ((is_stripped t p || one_valid t p) && can_start t c)) (starts_apart t (p ++ c ∷ []) q) h in
    let both-not : not (can_start t c) ≡ true = rw start at here in
    not-true (can_start t c) both-not
starts_apart_lem t p (d ∷ a) c q h k =
    let later = both_right (not ((is_stripped t p || one_valid t p) && can_start t d)) (starts_apart t (p ++ d ∷ []) (a ++ c ∷ q)) h in
    starts_apart_lem t (p ++ d ∷ []) a c q later (rw (append_assoc p (d ∷ []) a) k)

-- Where a proper start of a stripped sequence is itself one, or is one valid codepoint, the next codepoint is neither valid nor first
-- of any sequence.
pub proper_start : (t : Table) → Sound t → (seq : List ℕ) → Memᴰ seq t.emoji → (b : ℕ) (p : List ℕ) (c : ℕ) (q : List ℕ) → strip seq ≡ (b ∷ p) ++ c ∷ q → (is_stripped t (b ∷ p) || one_valid t (b ∷ p)) ≡ true → can_start t c ≡ false
unfolding apart
proper_start t s seq m b p c q e k =
    let whole : apart t (strip seq) ≡ true = both_right (not (one_valid t (strip seq))) (apart t (strip seq)) (rule5_here t s seq m) in
    let here : apart t (b ∷ p ++ c ∷ q) ≡ true = sym (ap (apart t) e) ∙ whole in
    starts_apart_lem t (b ∷ []) p c q here k
