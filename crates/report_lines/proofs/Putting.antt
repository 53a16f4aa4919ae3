-- The parts of a line, one behind the other.
use Prim.Native.Nat.{ℕ, ◌+◌, ◌≤◌, ◌<◌}
use native.Mathlib.Numerals.{add-one}
use native.Mathlib.Omega.{arith}
use mathlib.Core.Path.{◌≡◌}
use mathlib.Core.Bool.{Bool, true, false}
use mathlib.Core.List.{List, [], ◌∷◌, ◌++◌, append-nil}
use lib.ListN.{length, get_or, take}
use lib.Seq.{take-suc, take_all}
use Rattle.lists.specs.Laws.{joined_append}
use Rattle.numerals.specs.Numeral.{numeral}
use Rattle.table.specs.Table.{Table}
use Rattle.table.specs.Lookup.{should_escape}
use Rattle.byte_sink.specs.declared.Sink.{Sink}
use Rattle.byte_sink.specs.Sinks.{Adds}
use Rattle.byte_sink.proofs.Adding.{adds_none, adds_then}
use Rattle.report_lines.specs.Lines.{kind_word, spaced, shown, shown_all, line_of}

-- a codepoint, in braces or not
module _ (t : Table) (c d : ℕ) (e : d ≡ c) {before blank after : List ℕ} {s b r : Sink} (x : Adds before blank (32 ∷ []) s b) where
  pub shown-plain : should_escape t c ≡ false → Adds blank after (numeral 16 d) b r → Adds before after (spaced (shown t c)) s r
  unfolding shown
  shown-plain h y = rw (h, ← e) (adds_then x y)

  pub shown_braced : {opened digits : List ℕ} {o k : Sink} → should_escape t c ≡ true → Adds blank opened (123 ∷ []) b o
      → Adds opened digits (numeral 16 d) o k → Adds digits after (125 ∷ []) k r → Adds before after (spaced (shown t c)) s r
  unfolding shown
  shown_braced h y z w = rw (h, ← e) (adds_then x (adds_then (adds_then y z) w))

-- the first i codepoints of a token
pub record Showing (t : Table) (text before now : List ℕ) (s r : Sink) (i : ℕ) : Type 0 where
  pub inside : i ≤ length text
  pub put : Adds before now (shown_all t (take i text)) s r

module _ (t : Table) (text before : List ℕ) (s : Sink) where
  pub showing_start : Showing t text before before s s 0
  unfolding shown_all
  showing_start = record { inside = omega arith; put = adds_none before s }

  module _ (now : List ℕ) (r : Sink) (i : ℕ) (w : Showing t text before now s r i) where
    pub showing_more : i < length text → (after : List ℕ) (q : Sink) → Adds now after (spaced (shown t (get_or text i 0))) r q
        → Showing t text before after s q (i + 1)
    unfolding shown_all
    showing_more h after q p =
        let f : ℕ → List ℕ = λ c. spaced (shown t c) in
        let more : shown_all t (take (i + 1) text) ≡ shown_all t (take i text) ++ spaced (shown t (get_or text i 0)) =
        rw (add-one i, take-suc text i 0 h, joined_append f (take i text) (get_or text i 0 ∷ []), append-nil (shown t (get_or text i 0))) in
        record { inside = omega arith; put = rw more (adds_then w.put p) }

    pub showing_end : length text ≤ i → Adds before now (shown_all t text) s r
    showing_end h = rw (take_all i text h) at w.put

-- the word for a token
module _ (before after : List ℕ) (s r : Sink) (emoji : Bool) where
  pub word-emoji : emoji ≡ true → Adds before after (101 ∷ 109 ∷ 111 ∷ 106 ∷ 105 ∷ []) s r → Adds before after (kind_word emoji) s r
  word-emoji e x = rw e x

  pub word-text : emoji ≡ false → Adds before after (116 ∷ 101 ∷ 120 ∷ 116 ∷ []) s r → Adds before after (kind_word emoji) s r
  word-text e x = rw e x

-- the line
pub line_put : (t : Table) (emoji : Bool) (start end : ℕ) (text : List ℕ) {before a b d e after : List ℕ} {s k f g h r : Sink}
    → Adds before a (kind_word emoji) s k → Adds a b (spaced (numeral 10 start)) k f → Adds b d (spaced (numeral 10 end)) f g
    → Adds d e (shown_all t text) g h → Adds e after (10 ∷ []) h r → Adds before after (line_of t emoji start end text) s r
unfolding line_of
line_put t emoji start end text x y z v w = adds_then (adds_then (adds_then (adds_then x y) z) v) w
