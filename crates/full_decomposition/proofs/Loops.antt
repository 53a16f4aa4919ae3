-- What the loop over a text keeps: the rounds of the codepoints that are read are written.
use Prim.Native.Nat.{ℕ, ◌+◌, ◌≤◌, ◌<◌}
use native.Mathlib.Omega.{arith}
use mathlib.Core.Path.{◌≡◌, sym, ap, ◌∙◌}
use mathlib.Core.List.{List, [], ◌∷◌, ◌++◌}
use lib.ListN.{length, get_or, take, drop, length-append, take-append-drop}
use lib.Seq.{take_all}
use Rattle.limits.specs.Limits.{most_worked}
use Rattle.table.specs.Table.{Table}
use Rattle.text.specs.Decomposition.{four_rounds}
use Rattle.decomposition.specs.Rounds.{most_from, rounds, Appended, Decomposed}
use Rattle.decomposition.proofs.RoundLaws.{Expanding, expand_more, rounds-four, rounds_join}
use Rattle.full_decomposition.specs.Promise.{Decomposes}

module _ (t : Table) (text out out' : List ℕ) (i to : ℕ) (o : Expanding t 4 text out out' 0 i to) where
  -- one more codepoint
  pub reads_more : (out'' : List ℕ) (c r : ℕ) → c ≡ get_or text i 0 → i < length text → Decomposed t c out' out'' to r → Expanding t 4 text out out'' 0 (i + 1) r
  unfolding most_from
  reads_more out'' c r e h d =
      let w : Appended out' out'' to (rounds 4 t (get_or text i 0 ∷ [])) r = rw (rounds-four t (get_or text i 0 ∷ []), ← e) d.written in
      expand_more t 4 text out 0 out' out'' i to r o h w (omega (arith, w.end, d.few))

  -- the whole text
  pub reads_all : length text ≤ i → to ≤ most_worked → Decomposes t text out out' to
  reads_all h few =
      let e : rounds 4 t (take i text) ≡ four_rounds t text = rw (take_all i text h) (rounds-four t text) in
      record {
        same = o.same;
        whole = λ l. record { put = rw (← e) o.put; end = rw (← e) o.end };
        over = λ l. absurd (omega arith);
      }

  -- the limit is passed before its end
  pub reads_over : most_worked < to → Decomposes t text out out' to
  reads_over h =
      let parts : four_rounds t text ≡ rounds 4 t (take i text) ++ rounds 4 t (drop i text) =
      sym (rounds-four t text) ∙ ap (rounds 4 t) (sym (take-append-drop i text)) ∙ rounds_join 4 t (take i text) (drop i text) in
      record {
        same = o.same;
        whole = λ l. absurd (omega arith);
        over = λ l. rw (parts, length-append) (omega (arith, o.end));
      }
