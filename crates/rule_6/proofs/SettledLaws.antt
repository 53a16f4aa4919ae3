-- Laws of rule 6 by its codepoints, window by window.
use Prim.Native.Nat.{ℕ, ◌+◌, ◌-◌, ◌*◌, ◌/◌, ◌<◌, ◌≤◌}
use native.Mathlib.Omega.{arith}
use mathlib.Core.Path.{◌≡◌, refl, sym, ◌∙◌, ap}
use mathlib.Core.Bool.{Bool, true, false, not, ◌||◌}
use mathlib.Core.List.{List, [], ◌∷◌, ◌++◌}
use lib.ListN.{length, get_or}
use borrow.Author.Tests.{ltb-true}
use Rattle.lists.specs.Lists.{all, mem}
use Rattle.lists.specs.Elements.{list_same}
use Rattle.lists.specs.Tests.{agree, all_both, all-members, member_passes}
use Rattle.table.specs.Table.{Table}
use Rattle.text.specs.Hangul.{is_syllable}
use Rattle.text.specs.Decomposition.{single, four_rounds}
use Rattle.decomposition.proofs.RoundLaws.{rounds_join, rounds-four}
use Rattle.soundness.specs.Pairs.{decomposes_fully, heads}
use Rattle.bit_sets.specs.Sets.{has, window_words}
use Rattle.sound_choices.specs.Rounds.{heads_of, after, start_of, Holding}
use Rattle.sound_choices.specs.Choices.{is_point}
use Rattle.sound_choices.proofs.RoundLaws.{plain-single, neither_left, neither_right}
use Rattle.sound_choices.proofs.WordLaws.{word_none}
use Rattle.sound_rounds.proofs.ReachLaws.{after-four}
use Rattle.rule_2.specs.Windows.{Passes}
use Rattle.rule_6.specs.Heads.{is_stable, stable_at, settled}
use Rattle.rule_6.proofs.HeadLaws.{fully_is}

-- the codepoint at a place of a window decomposes no further
module _ (t : Table) (base : ℕ) (set : List ℕ) (d : ℕ) where
  pub stable_free : has set d ≡ false → true ≡ stable_at t base set d
  unfolding stable_at
  stable_free e = rw e

  last : (b : Bool) → b || true ≡ true
  last true = refl
  last false = refl

  pub stable_plain : (heads : List ℕ) → Holding base heads (heads_of t.decompositions) → d < 0x10000
      → is_syllable (base + d) || has heads d ≡ false
      → true ≡ stable_at t base set d
  unfolding stable_at is_stable
  stable_plain heads w h e =
      let s = neither_left (is_syllable (base + d)) (has heads d) e in
      let k = neither_right (is_syllable (base + d)) (has heads d) e in
      rw (plain-single t (base + d) s (sym (w.each d h) ∙ k), list_same ((base + d) ∷ [])) (sym (last (not (has set d))))

  pub stable_asked : (r : Bool) → has set d ≡ true → r ≡ is_stable t (base + d) → r ≡ stable_at t base set d
  unfolding stable_at
  stable_asked r e f = rw e f

-- the places of the word i, where the set holds none, or none of the codepoints can change
module _ (t : Table) (base : ℕ) (set : List ℕ) (i : ℕ) where
  pub word-free : get_or set i 0 ≡ 0 → (d : ℕ) → d / 32 ≡ i → stable_at t base set d ≡ true
  word-free z d f = sym (stable_free t base set d (word_none set i d z f))

  pub word-plain : (heads : List ℕ) → Holding base heads (heads_of t.decompositions) → i < window_words → get_or heads i 0 ≡ 0
      → ((d : ℕ) → d < 32 → is_syllable (base + i * 32 + d) ≡ false) → (d : ℕ) → d / 32 ≡ i → stable_at t base set d ≡ true
  word-plain heads w h z ns d f = sym (stable_plain t base set d heads w (omega arith) (rw (none, word_none heads i d z f)))
    where
      none : is_syllable (base + d) ≡ false
      none =
          let e : base + i * 32 + (d - i * 32) ≡ base + d = omega arith in
          ap is_syllable (sym e) ∙ ns (d - i * 32) (omega arith)

-- the test of a place, and of its codepoint
pub window_settled : (t : Table) (base : ℕ) (set : List ℕ) → Holding base set (after 4 t (start_of t true)) → (d : ℕ) → d < 0x10000
    → stable_at t base set d ≡ settled t (base + d)
unfolding stable_at settled start_of
window_settled t base set w d h =
    let e : has set d ≡ mem (base + d) (four_rounds t (heads t)) = w.each d h ∙ ap (mem (base + d)) (after-four t (heads t)) in
    rw e

-- four rounds of a text are those of its codepoints
module _ (t : Table) where
  rounds_cons : (c : ℕ) (s : List ℕ) → four_rounds t (c ∷ s) ≡ four_rounds t (c ∷ []) ++ four_rounds t s
  rounds_cons c s = rw (← rounds-four t (c ∷ s), ← rounds-four t (c ∷ []), ← rounds-four t s) (rounds_join 4 t (c ∷ []) s)

  rounds-none : four_rounds t [] ≡ []
  unfolding four_rounds
  rounds-none = refl

  fully-all : ((c : ℕ) → 1 ≤ length (single t c)) → (s : List ℕ) → all (is_stable t) (four_rounds t s) ≡ all (decomposes_fully t) s
  fully-all filled [] = rw rounds-none
  fully-all filled (c ∷ s) =
      rw (rounds_cons c s, all_both (is_stable t) (four_rounds t (c ∷ [])) (four_rounds t s), fully_is t filled c, fully-all filled s)

  -- "Four rounds decompose fully", from the test of every codepoint up to 10FFFF
  pub settled-fully : ((c : ℕ) → 1 ≤ length (single t c)) → all is_point (four_rounds t (heads t)) ≡ true → (r : Bool)
      → Passes (settled t) 0x110000 r
      → r ≡ all (decomposes_fully t) (heads t)
  unfolding settled
  settled-fully filled points r p = agree r (all (is_stable t) (four_rounds t (heads t))) yes no ∙ fully-all filled (heads t)
    where
      yes : r ≡ true → all (is_stable t) (four_rounds t (heads t)) ≡ true
      yes k = all-members (is_stable t) (four_rounds t (heads t))
          (λ c i. held c i (p.yes k c (ltb-true c 0x110000 (member_passes is_point (four_rounds t (heads t)) points c i))))
        where
          held : (c : ℕ) → mem c (four_rounds t (heads t)) ≡ true → not (mem c (four_rounds t (heads t))) || is_stable t c ≡ true
              → is_stable t c ≡ true
          held c i q = rw i at q

      no : all (is_stable t) (four_rounds t (heads t)) ≡ true → r ≡ true
      no k = go r refl
        where
          asked : (c : ℕ) (b : Bool) → mem c (four_rounds t (heads t)) ≡ b → not (mem c (four_rounds t (heads t))) || is_stable t c ≡ true
          asked c true i = rw i (member_passes (is_stable t) (four_rounds t (heads t)) k c i)
          asked c false i = rw i

          go : (b : Bool) → r ≡ b → b ≡ true
          go true q = refl
          go false q = absurd (p.no q (λ c h. asked c (mem c (four_rounds t (heads t))) refl))
