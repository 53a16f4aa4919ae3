-- The loop that leaves FE0F out.
use Prim.Native.Nat.{ℕ, ◌+◌, ◌≤◌, ◌<◌}
use native.Mathlib.Omega.{arith}
use native.Mathlib.Numerals.{add-one}
use mathlib.Core.Path.{◌≡◌, refl, sym, ◌∙◌}
use mathlib.Core.Bool.{Bool, true, false, not}
use mathlib.Core.List.{List, [], ◌∷◌, ◌++◌, append-nil}
use lib.ListN.{length, get_or, take, drop, length-append, length-take, length-drop}
use lib.Seq.{take-suc, take_all}
use lib.Dec.{eqb}
use borrow.Author.Tests.{eq-eqb, ne_eqb}
use Rattle.lists.specs.Lists.{keep}
use Rattle.limits.specs.Limits.{most_worked, least_work}
use Rattle.table.specs.declared.Span.{Span}
use Rattle.table.specs.Layout.{most_items}
use Rattle.table.specs.Spans.{within}
use Rattle.laying.specs.declared.Run.{Run}
use Rattle.finder.specs.Emoji.{selector, strip}
use Rattle.finder.specs.Match.{SequenceFits}
use Rattle.decomposition.specs.Rounds.{placed, Appended}
use Rattle.decomposition.proofs.RoundLaws.{placed_join}
use Rattle.laying.specs.Laying.{TagsPut, EmojiPut}
use Rattle.laying.proofs.Tagging.{put_both}
use Rattle.laying.proofs.LayingLaws.{laying_emoji, laying_emoji_over}

keep_join : (p : ℕ → Bool) (a b : List ℕ) → keep p (a ++ b) ≡ keep p a ++ keep p b
keep_join p [] b = refl
keep_join p (x ∷ a) b = go (p x) refl (keep_join p a b)
  where
    go : (t : Bool) → p x ≡ t → keep p (a ++ b) ≡ keep p a ++ keep p b → keep p (x ∷ a ++ b) ≡ keep p (x ∷ a) ++ keep p b
    go true e r = rw (e, r)
    go false e r = rw (e, r)

strip_join : (a b : List ℕ) → strip (a ++ b) ≡ strip a ++ strip b
unfolding strip
strip_join a b = keep_join (λ c. not (eqb c selector)) a b

-- i codepoints are read, and what is left of them is written from `at` on, up to `to`
pub record Stripping (seq out₀ : List ℕ) (at : ℕ) (out : List ℕ) (to i : ℕ) : Type 0 where
  pub inside : i ≤ length seq
  pub few : to ≤ at + i
  pub put : out ≡ placed out₀ at (strip (take i seq))
  pub end : to ≡ at + length (strip (take i seq))

module _ (seq out₀ : List ℕ) (at : ℕ) where
  pub strip_start : Stripping seq out₀ at out₀ at 0
  unfolding strip
  strip_start = record { inside = omega arith; few = omega arith; put = refl; end = omega arith }

  module _ (out : List ℕ) (to i : ℕ) (p : Stripping seq out₀ at out to i) (h : i < length seq) where
    abbrev c : ℕ
    c = get_or seq i 0

    next : strip (take (i + 1) seq) ≡ strip (take i seq) ++ strip (c ∷ [])
    next = rw (add-one i, take-suc seq i 0 h) (strip_join (take i seq) (c ∷ []))

    pub strip_skip : c ≡ selector → Stripping seq out₀ at out to (i + 1)
    unfolding strip
    strip_skip e =
        let none : strip (c ∷ []) ≡ [] = rw (eq-eqb c selector e) in
        let same : strip (take (i + 1) seq) ≡ strip (take i seq) = rw (next, none) (append-nil (strip (take i seq))) in
        record { inside = omega arith; few = omega (arith, p.few); put = rw same p.put; end = rw same p.end }

    pub strip_put : (c ≡ selector → ⊥) → (out' : List ℕ) (r : ℕ) → Appended out out' to (c ∷ []) r → Stripping seq out₀ at out' r (i + 1)
    unfolding strip
    strip_put e out' r q =
        let one : strip (c ∷ []) ≡ c ∷ [] = rw (ne_eqb c selector e) in
        let s : List ℕ = strip (take i seq) in
        let more : strip (take (i + 1) seq) ≡ s ++ c ∷ [] = rw (next, one) in
        record {
          inside = omega arith;
          few = omega (arith, p.few, q.end);
          put = q.put ∙ rw (p.end, p.put, more) (sym (placed_join out₀ at s (c ∷ [])));
          end = rw (more, length-append s (c ∷ [])) (omega (arith, q.end, p.end));
        }

  pub strip-stop : (out : List ℕ) (to i : ℕ) → Stripping seq out₀ at out to i → length seq ≤ i → Appended out₀ out at (strip seq) to
  strip-stop out to i p h =
      let e : take i seq ≡ seq = take_all i seq h in
      record { put = rw e at p.put; end = rw e at p.end }

-- a sequence of a table is short
pub sequence_short : (ws : List ℕ) (s : Span) → SequenceFits ws s → length (within s ws) ≤ most_items
sequence_short ws s f = simp (length-take, length-drop) (omega (arith, f.short))

-- a stripped sequence that is written into the work area is an emoji laid down
module _ (ws w : List ℕ) (s : Span) (run : Run) where
  pub emoji_put : (out w₂ : List ℕ) (end : ℕ) → least_work ≤ length w → run.tally.worked ≤ most_worked
      → Appended (take most_worked w) out run.tally.worked (strip (within s ws)) end → TagsPut (out ++ drop most_worked w) w₂ run.tally.worked end 0 0
      → EmojiPut ws w w₂ s run (record { tally = record { worked = end; emoji = true; text = run.tally.text }; tag = 1 })
  emoji_put out w₂ end big few a m =
      let p = put_both w out run.tally.worked end (strip (within s ws)) big a w₂ 0 0 m in
      record {
        same = p.same;
        grows = omega (arith, p.end);
        lays = λ put ss f e l.
            laying_emoji put ss run w w₂ f (record { tally = record { worked = end; emoji = true; text = run.tally.text }; tag = 1 }) l refl refl few (rw e p) refl;
      }

  pub emoji_over : most_worked < run.tally.worked → EmojiPut ws w w s run (record { tally = record { worked = run.tally.worked; emoji = true; text = run.tally.text }; tag = 1 })
  emoji_over h =
      record {
        same = refl;
        grows = omega arith;
        lays = λ put ss f e l. laying_emoji_over put ss run w w f (record { tally = record { worked = run.tally.worked; emoji = true; text = run.tally.text }; tag = 1 }) l refl refl h refl;
      }
