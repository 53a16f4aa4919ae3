-- Laying text down, codepoint by codepoint.
use Prim.Native.Nat.{ℕ, zero, suc, ◌+◌, ◌-◌, ◌≤◌, ◌<◌}
use native.Mathlib.Omega.{arith}
use native.Mathlib.Numerals.{add-one}
use mathlib.Core.Path.{◌≡◌, refl, ◌∙◌, ap}
use mathlib.Core.Bool.{true}
use mathlib.Core.List.{List, [], ◌∷◌, ◌++◌}
use lib.ListN.{length, get_or, take, drop}
use lib.Seq.{take-suc, take_all}
use Rattle.limits.specs.Limits.{most_worked, least_work}
use Rattle.table.specs.declared.Span.{Span}
use Rattle.table.specs.Table.{Table}
use Rattle.table.specs.Spans.{within}
use Rattle.text.specs.Decomposition.{four_rounds}
use Rattle.decomposition.specs.Rounds.{Decomposed}
use Rattle.laying.specs.declared.Run.{Run}
use Rattle.tokens.specs.Scan.{Step, text}
use Rattle.laying.specs.Laying.{next_tag, Laying, TagsPut, TextPut, ItemsPut}
use Rattle.laying.proofs.Tagging.{put_both}
use Rattle.laying.proofs.LayingLaws.{four_joins, laying_empty, laying_text, laying_text_over}

pub next-some : (m n : ℕ) → (n ≡ 0 → ⊥) → 2 ≡ next_tag m n
next-some m zero h = absurd (h refl)
next-some m (suc n) h = refl

pub next-none : (m n : ℕ) → n ≡ 0 → m ≡ next_tag m n
next-none m n h = rw h

-- a codepoint's decomposition that is written into the work area is text laid down
module _ (t : Table) (c : ℕ) (w : List ℕ) (run : Run) where
  pub decomposed-behind : (out : List ℕ) (end : ℕ) → Decomposed t c (take most_worked w) out run.tally.worked end → run.tally.worked ≤ end
  decomposed-behind out end d = omega (arith, d.written.end)

  pub text_put : (out w₂ : List ℕ) (end tag : ℕ) → least_work ≤ length w → run.tally.worked ≤ most_worked
      → Decomposed t c (take most_worked w) out run.tally.worked end → TagsPut (out ++ drop most_worked w) w₂ run.tally.worked end run.tag 2
      → tag ≡ next_tag run.tag (end - run.tally.worked)
      → TextPut t w w₂ c run (record { tally = record { worked = end; emoji = run.tally.emoji; text = true }; tag = tag })
  text_put out w₂ end tag big few d m n =
      let s : List ℕ = four_rounds t (c ∷ []) in
      let p = put_both w out run.tally.worked end s big d.written w₂ run.tag 2 m in
      let e : end - run.tally.worked ≡ length s = omega (arith, d.written.end) in
      record {
        same = p.same;
        lays = λ ss a l.
            laying_text (four_rounds t) (four_joins t) ss a run w w₂ c (record { tally = record { worked = end; emoji = run.tally.emoji; text = true }; tag = tag }) l few p refl refl (rw e at n);
      }

  pub text_over : most_worked < run.tally.worked → TextPut t w w c run (record { tally = record { worked = run.tally.worked; emoji = run.tally.emoji; text = true }; tag = run.tag })
  text_over h =
      record {
        same = refl;
        lays = λ ss a l. laying_text_over (four_rounds t) (four_joins t) ss a run w w c (record { tally = record { worked = run.tally.worked; emoji = run.tally.emoji; text = true }; tag = run.tag }) l h refl refl refl;
      }

-- the first i items are laid down
pub record Itemed (t : Table) (s w₀ : List ℕ) (run : Run) (w : List ℕ) (r : Run) (i : ℕ) : Type 0 where
  pub inside : i ≤ length s
  pub same : length w ≡ length w₀
  pub lays : (ss : List Step) → Laying (four_rounds t) ss run w₀ → Laying (four_rounds t) (ss ++ text (take i s) ∷ []) r w

module _ (t : Table) (s w₀ : List ℕ) (run : Run) where
  pub items_start : Itemed t s w₀ run w₀ run 0
  items_start = record { inside = omega arith; same = refl; lays = λ ss l. laying_empty (four_rounds t) (four_joins t) ss run w₀ l }

  module _ (w : List ℕ) (r : Run) (i : ℕ) (p : Itemed t s w₀ run w r i) where
    pub items_more : (w' : List ℕ) (r' : Run) → i < length s → TextPut t w w' (get_or s i 0) r r' → Itemed t s w₀ run w' r' (i + 1)
    items_more w' r' h q =
        record {
          inside = omega arith;
          same = q.same ∙ p.same;
          lays = λ ss l. rw (add-one i, take-suc s i 0 h) (q.lays ss (take i s) (p.lays ss l));
        }

    pub items_stop : length s ≤ i → ItemsPut t w₀ w s run r
    items_stop h = record { same = p.same; lays = λ ss l. rw (take_all i s h) at (p.lays ss l) }
