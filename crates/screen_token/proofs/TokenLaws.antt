-- The screen form of a text word by word, and of a token.
use Rattle.std.specs.Prelude.{Some, None}
use Prim.Native.Nat.{ℕ, suc, ◌+◌, ◌-◌, ◌≤◌, ◌<◌}
use native.Mathlib.Omega.{arith}
use native.Mathlib.Numerals.{add-one}
use mathlib.Core.Path.{◌≡◌, refl, sym, ap, ◌∙◌}
use mathlib.Core.Bool.{Bool, true, false}
use mathlib.Core.List.{List, [], ◌∷◌, ◌++◌, map, map-append}
use lib.ListN.{length, get_or, take, drop, set, length-drop, length-set}
use lib.Seq.{take-suc, take-suc-set, length-take-le, get_or-set_other}
use borrow.Author.Tests.{ne_eqb, eq-eqb}
use Rattle.limits.specs.Limits.{most_worked}
use Rattle.table.specs.Table.{Table}
use Rattle.table.specs.Spans.{within}
use Rattle.table.specs.declared.Span.{Span}
use Rattle.token_walk.specs.declared.Walked.{Walked}
use Rattle.emoji_record.specs.Record.{SequenceIs}
use Rattle.name.specs.Parts.{Put}
use Rattle.forms.specs.Forms.{shown}
use Rattle.screen_token.specs.Shows.{sequence_in_worked, ShowsText, token_words, ShowsToken}

-- the first i words are shown, and those behind them are as before
pub record Texting (w₀ w : List ℕ) (n i : ℕ) : Type 0 where
  pub same : length w ≡ length w₀
  pub inside : i ≤ n
  pub front : take i w ≡ map (shown false) (take i w₀)
  pub behind : (j : ℕ) → i ≤ j → get_or w j 0 ≡ get_or w₀ j 0

module _ (w₀ : List ℕ) (n : ℕ) where
  pub texting_start : Texting w₀ w₀ n 0
  texting_start = record { same = refl; inside = omega arith; front = refl; behind = λ j h. refl }

  module _ (w : List ℕ) (i : ℕ) (p : Texting w₀ w n i) where
    -- one word more
    longer : i < length w₀ → map (shown false) (take (suc i) w₀) ≡ take i w ++ shown false (get_or w i 0) ∷ []
    longer h =
        ap (map (shown false)) (take-suc w₀ i 0 h) ∙ map-append (shown false) (take i w₀) (get_or w₀ i 0 ∷ [])
        ∙ rw (← p.front, p.behind i (omega arith))

    pub texting_shown : i < n → n ≤ length w₀ → get_or w i 0 ≡ 0x3BE → Texting w₀ (set w i 0x39E) n (i + 1)
    texting_shown h k e =
        let one : shown false (get_or w i 0) ≡ 0x39E = rw (eq-eqb (get_or w i 0) 0x3BE e) in
        record {
          same = length-set w i 0x39E ∙ p.same;
          inside = omega arith;
          front = rw (add-one i, take-suc-set w i 0x39E (omega (arith, p.same))) (sym (longer (omega arith) ∙ rw one));
          behind = λ j m. get_or-set_other w i j 0x39E 0 (λ q. omega arith) ∙ p.behind j (omega arith);
        }

    pub texting_kept : i < n → n ≤ length w₀ → (get_or w i 0 ≡ 0x3BE → ⊥) → Texting w₀ w n (i + 1)
    texting_kept h k e =
        let one : shown false (get_or w i 0) ≡ get_or w i 0 = rw (ne_eqb (get_or w i 0) 0x3BE e) in
        record {
          same = p.same;
          inside = omega arith;
          front = rw (add-one i, take-suc w i 0 (omega (arith, p.same))) (sym (longer (omega arith) ∙ rw one));
          behind = λ j m. p.behind j (omega arith);
        }

    pub texting_end : n ≤ i → ShowsText w₀ w n
    texting_end h = let e : i ≡ n = omega (arith, p.inside) in record { same = p.same; front = rw (← e) p.front }

-- in the Greek group text stays
shown_greek : (s : List ℕ) → map (shown true) s ≡ s
shown_greek [] = refl
shown_greek (c ∷ s) = ap (λ (r : List ℕ). c ∷ r) (shown_greek s)

-- the first n words are as a label that is Greek or not shows them
pub record ShownSo (greek : Bool) (w w' : List ℕ) (n : ℕ) : Type 0 where
  pub same : length w' ≡ length w
  pub front : take n w' ≡ map (shown greek) (take n w)

pub so_shown : (greek : Bool) (w w' : List ℕ) (n : ℕ) → greek ≡ false → ShowsText w w' n → ShownSo greek w w' n
so_shown greek w w' n e h = record { same = h.same; front = rw e h.front }

pub so_kept : (greek : Bool) (w : List ℕ) (n : ℕ) → greek ≡ true → ShownSo greek w w n
so_kept greek w n e = record { same = refl; front = rw e (sym (shown_greek (take n w))) }

-- a sequence is no longer than the worked length may be
pub sequence_short : (ws seq : List ℕ) (s : Span) → SequenceIs ws seq s → length (within s ws) ≤ most_worked
sequence_short ws seq s q =
    let long : length (within s ws) ≡ s.to - s.from = length-take-le (s.to - s.from) (drop s.from ws) (rw length-drop (omega (arith, q.fits.inside))) in
    omega (arith, long, q.fits.short, sequence_in_worked)

module _ (t : Table) (greek : Bool) (x : Walked) (w before after : List ℕ) (at end : ℕ) where
  -- the words of a token are put
  pub token_put : (s : List ℕ) → token_words t greek x w ≡ s → length s ≤ most_worked → Put before after at true s end → ShowsToken t greek x w before after at end
  token_put s e h p = record { put = rw e p; near = omega (arith, p.ends) }

  pub token_emoji : (ws : List ℕ) (m : ℕ) (s : Span) → SequenceIs ws (get_or t.emoji m []) s → x.extent.emoji ≡ Some m
      → Put before after at true (within s ws) end → ShowsToken t greek x w before after at end
  token_emoji ws m s q e p = token_put (within s ws) (rw (e, q.is)) (sequence_short ws (get_or t.emoji m []) s q) p

  pub token_text : (front : List ℕ) → x.extent.emoji ≡ None → front ≡ map (shown greek) (take x.length w) → length front ≤ most_worked
      → Put before after at true front end → ShowsToken t greek x w before after at end
  token_text front e f h p = token_put front (rw e (sym f)) h p
