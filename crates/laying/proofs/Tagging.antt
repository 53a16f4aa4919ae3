-- Codepoints that are written straight into the first half of the work area, and the loop that tags them in the second.
use Prim.Native.Nat.{ℕ, zero, suc, ◌+◌, ◌-◌, ◌≤◌, ◌<◌}
use native.Mathlib.Omega.{arith}
use mathlib.Core.Path.{◌≡◌, refl, sym, ◌∙◌, ap}
use mathlib.Core.List.{List, [], ◌∷◌, ◌++◌}
use lib.ListN.{length, take, drop, set, length-append, length-set, length-drop, length-replicate}
use lib.Seq.{sets-eq, length-sets, take_at, drop_at, take-take, take-set-le, drop-set-add, length-take-le}
use Rattle.limits.specs.Limits.{most_worked, least_work}
use Rattle.decomposition.specs.Rounds.{placed, Appended}
use Rattle.decomposition.proofs.RoundLaws.{placed_join}
use Rattle.laying.specs.Laying.{run_tags, PutAt, TagsPut}
use Rattle.laying.proofs.Putting.{tag_at, tags_snoc}

tags_length : (f l n : ℕ) → length (run_tags f l n) ≡ n
tags_length f l zero = refl
tags_length f l (suc n) = ap suc (length-replicate {A = ℕ} n l)

-- the codepoints from `from` up to i are tagged, and the tag is that of the next
pub record Tagging (w₀ : List ℕ) (from to first later : ℕ) (w : List ℕ) (tag i : ℕ) : Type 0 where
  pub low : from ≤ i
  pub high : i - from ≤ to - from
  pub same : length w ≡ length w₀
  pub next : tag ≡ tag_at first later (i - from)
  pub words : take most_worked w ≡ take most_worked w₀
  pub tags : drop most_worked w ≡ placed (drop most_worked w₀) from (run_tags first later (i - from))

module _ (w₀ : List ℕ) (from to first later : ℕ) where
  pub tag_start : Tagging w₀ from to first later w₀ first from
  tag_start =
      let e : from - from ≡ 0 = omega arith in
      record { low = omega arith; high = omega arith; same = refl; next = rw e; words = refl; tags = rw e }

  pub tag_more : (w : List ℕ) (tag i : ℕ) → i < to → Tagging w₀ from to first later w tag i
      → Tagging w₀ from to first later (set w (most_worked + i) tag) later (i + 1)
  tag_more w tag i h p =
      let k : ℕ = i - from in
      let e : i + 1 - from ≡ suc k = omega (arith, p.low) in
      let ms : List ℕ = run_tags first later k in
      let d : List ℕ = drop most_worked w₀ in
      let at : from + length ms ≡ i = omega (arith, tags_length first later k, p.low) in
      let two : set (placed d from ms) (from + length ms) tag ≡ set (drop most_worked w) i tag = rw (at, p.tags) in
      let one : placed d from (ms ++ tag ∷ []) ≡ set (drop most_worked w) i tag = placed_join d from ms (tag ∷ []) ∙ two in
      record {
        low = omega (arith, p.low);
        high = omega (arith, p.low);
        same = simp length-set p.same;
        next = rw e;
        words = take-set-le most_worked w (most_worked + i) tag (omega arith) ∙ p.words;
        tags = drop-set-add most_worked w i tag ∙ sym one ∙ rw (e, tags_snoc first later k, p.next);
      }

  pub tag_stop : (w : List ℕ) (tag i : ℕ) → to ≤ i → Tagging w₀ from to first later w tag i → TagsPut w₀ w from to first later
  tag_stop w tag i h p =
      let e : i - from ≡ to - from = omega (arith, p.high) in
      record { same = p.same; words = p.words; tags = λ few. rw (← e) p.tags }

  pub tag_over : most_worked < to → TagsPut w₀ w₀ from to first later
  tag_over h = record { same = refl; words = refl; tags = λ few. absurd (omega arith) }

-- what is written into a list, and what stands behind it
module _ (l s : List ℕ) (n : ℕ) (fits : n + length s ≤ length l) where
  front_length : length (take n l ++ s) ≡ n + length s
  front_length = length-append (take n l) s ∙ ap (λ (k : ℕ). k + length s) (length-take-le n l (omega arith))

  grouped : placed l n s ≡ (take n l ++ s) ++ drop (n + length s) l
  grouped = sets-eq s l n fits

  placed_front : take (n + length s) (placed l n s) ≡ take n l ++ s
  placed_front = rw grouped (take_at (take n l ++ s) (drop (n + length s) l) (n + length s) front_length)

  placed-behind : drop (n + length s) (placed l n s) ≡ drop (n + length s) l
  placed-behind = rw grouped (drop_at (take n l ++ s) (drop (n + length s) l) (n + length s) front_length)

-- s is written into the first half, and tagged
module _ (w out : List ℕ) (n end : ℕ) (s : List ℕ) (big : least_work ≤ length w) (a : Appended (take most_worked w) out n s end) where
  half : length (take most_worked w) ≡ most_worked
  half = length-take-le most_worked w (omega arith)

  pub out_length : length out ≡ most_worked
  out_length = ap length a.put ∙ length-sets (take most_worked w) n s ∙ half

  module _ (w₂ : List ℕ) (first later : ℕ) (m : TagsPut (out ++ drop most_worked w) w₂ n end first later) where
    words_are : take most_worked w₂ ≡ placed (take most_worked w) n s
    words_are = m.words ∙ take_at out (drop most_worked w) most_worked out_length ∙ a.put

    tags_are : end ≤ most_worked → drop most_worked w₂ ≡ placed (drop most_worked w) n (run_tags first later (length s))
    tags_are h =
        let e : end - n ≡ length s = omega (arith, a.end) in
        rw (← e) (m.tags h ∙ ap (λ (l : List ℕ). placed l n (run_tags first later (end - n))) (drop_at out (drop most_worked w) most_worked out_length))

    pub put_both : PutAt w w₂ n s (run_tags first later (length s)) end
    put_both =
        let ms : List ℕ = run_tags first later (length s) in
        let long : length ms ≡ length s = tags_length first later (length s) in
        let halves : length w ≡ length out + length (drop most_worked w) = omega (arith, out_length, length-drop most_worked w) in
        record {
          end = a.end;
          same = m.same ∙ length-append out (drop most_worked w) ∙ sym halves;
          words = λ h.
              let f : n + length s ≤ length (take most_worked w) = omega (arith, half, a.end) in
              let e : take end w₂ ≡ take end (take most_worked w₂) = sym (take-take end most_worked w₂ h) in
              let b : take n (take most_worked w) ≡ take n w = take-take n most_worked w (omega (arith, a.end)) in
              rw (e, words_are, a.end, placed_front (take most_worked w) s n f, b);
          beside = λ h.
              let f : n + length ms ≤ length (drop most_worked w) = omega (arith, long, length-drop most_worked w, a.end) in
              let e : end ≡ n + length ms = omega (arith, long, a.end) in
              rw (tags_are h, e) (placed_front (drop most_worked w) ms n f);
          words_left = λ h.
              let f : n + length s ≤ length (take most_worked w) = omega (arith, half, a.end) in
              rw (words_are, a.end) (placed-behind (take most_worked w) s n f);
          tags_left = λ h.
              let f : n + length ms ≤ length (drop most_worked w) = omega (arith, long, length-drop most_worked w, a.end) in
              let e : end ≡ n + length ms = omega (arith, long, a.end) in
              rw (tags_are h, e) (placed-behind (drop most_worked w) ms n f);
        }
