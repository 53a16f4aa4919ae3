-- Laws of a test of every codepoint, window by window.
use Prim.Native.Nat.{ℕ, ◌+◌, ◌-◌, ◌*◌, ◌/◌, ◌%◌, ◌<◌, ◌≤◌}
use native.Mathlib.Omega.{arith}
use mathlib.Core.Path.{◌≡◌, refl, sym, ◌∙◌, ap, subst}
use mathlib.Core.Bool.{Bool, true, false, false≢true}
use mathlib.Core.List.{List}
use lib.ListN.{length, replicate, length-replicate}
use lib.Dec.{ltb}
use Rattle.std.specs.Bool.{MatchBool}
use Rattle.std.specs.List.{AllWithin, HoldsAt, range_with_len}
use Rattle.std.proofs.lemmas.List.FromFn.{length-range_with_len, get_or-range_with_len}
use borrow.Author.Tests.{ltb-true, ltb-false}
use Rattle.table.specs.Table.{Headed, Table}
use Rattle.soundness.specs.Pairs.{heads}
use Rattle.bit_sets.specs.Sets.{window_words}
use Rattle.bit_sets.proofs.PutLaws.{empty_has}
use Rattle.sound_choices.specs.Rounds.{after, Holding, rows_words}
use Rattle.sound_choices.specs.Choices.{FirstSet}
use Rattle.sound_rounds.specs.Reached.{RoundsChosen, Reached}
use Rattle.rule_2.specs.Windows.{Passes, WordPasses}

-- the numbers below c pass the test
abbrev pub Passed : (ℕ → Bool) → ℕ → Type 0
Passed p c = (d : ℕ) → d < c → p d ≡ true

-- what was asked of the numbers from a on, n of them: all answered yes, or one answered no
pub record Asking (yes no : ℕ → Type 0) (a n : ℕ) (r : Bool) : Type 0 where
  pub all : r ≡ true → (d : ℕ) → a ≤ d → d < a + n → yes d
  pub one : r ≡ false → (d : ℕ) × (a ≤ d) × (d < a + n) × no d

module _ (yes no : ℕ → Type 0) (a n : ℕ) where
  pub asking : (r : Bool)
      → MatchBool r (AllWithin yes (range_with_len a n) 0 (length (range_with_len a n)))
      ((k : ℕ) × (k < length (range_with_len a n)) × HoldsAt no (range_with_len a n) k)
      → Asking yes no a n r
  asking true w =
      record {
        all = λ e d h k.
            let z : a + (d - a) ≡ d = omega arith in
            let m : d - a < n = omega arith in
            subst yes (get_or-range_with_len a n (d - a) 0 m ∙ z) (w (d - a) 0 (omega arith) (rw (length-range_with_len a n) m));
        one = λ e. absurd (false≢true (sym e));
      }
  asking false w =
      let m : w.0 < n = rw (length-range_with_len a n) at w.1 in
      record {
        all = λ e. absurd (false≢true e);
        one = λ e. (a + w.0, omega arith, omega (arith, m), subst no (get_or-range_with_len a n w.0 0 m) (w.2 0));
      }

module _ (p : ℕ → Bool) where
  pub word_held : (i : ℕ) → ((d : ℕ) → d / 32 ≡ i → p d ≡ true) → WordPasses p i true
  word_held i f = record { yes = λ e d h. f d h; no = λ e g. false≢true (sym e) }

  -- the places of a word, and the words of a set
  pub word-all : (i : ℕ) (r : Bool) → Asking (λ d. p d ≡ true) (λ d. p d ≡ false) (i * 32) 32 r → WordPasses p i r
  word-all i r w =
      record {
        yes = λ e d h. w.all e d (omega (arith, h)) (omega (arith, h));
        no = λ e g.
            let f = w.one e in
            false≢true (sym f.3 ∙ g f.0 (omega (arith, f.1, f.2)));
      }

  pub words-all : (r : Bool) → Asking (λ i. WordPasses p i true) (λ i. WordPasses p i false) 0 window_words r → Passes p 0x10000 r
  words-all r w =
      record {
        yes = λ e d h. (w.all e (d / 32) (omega arith) (omega (arith, h))).yes refl d refl;
        no = λ e g.
            let f = w.one e in
            f.3.no refl (λ d k. g d (omega (arith, k, f.2)));
      }

pub passed_all : (p : ℕ → Bool) (c : ℕ) → Passed p c → (bound : ℕ) → bound ≤ c → Passes p bound true
passed_all p c w bound h = record { yes = λ e d k. w d (omega arith); no = λ e f. false≢true (sym e) }

-- a test of codepoints, and of the places of a window
module _ (p q : ℕ → Bool) (base : ℕ) (e : (d : ℕ) → d < 0x10000 → p d ≡ q (base + d)) where
  pub window_on : (r : Bool) → Passes p 0x10000 r → r ≡ true → Passed q base → Passed q (base + 0x10000)
  window_on r w f g c h = go (ltb c base) refl
    where
      go : (b : Bool) → ltb c base ≡ b → q c ≡ true
      go true k = g c (ltb-true c base k)
      go false k =
          let l : base ≤ c = ltb-false c base k in
          let z : base + (c - base) ≡ c = omega arith in
          let n : c - base < 0x10000 = omega arith in
          ap q (sym z) ∙ sym (e (c - base) n) ∙ w.yes f (c - base) n

  pub window_not : (r : Bool) → Passes p 0x10000 r → r ≡ false → base % 0x10000 ≡ 0 → base < 0x110000 → Passes q 0x110000 false
  window_not r w f a b =
      record {
        yes = λ k c h. absurd (false≢true k);
        no = λ k g. w.no f (λ d h. e d h ∙ g (base + d) (omega arith));
      }

-- the records of a section are those of the table
pub first_of : (rs ds : List Headed) (first : List ℕ) → rs ≡ ds → FirstSet rs first → FirstSet ds first
first_of rs ds first e w = subst (λ (l : List Headed). FirstSet l first) e w

-- no record is chosen yet
pub rounds_start : (t : Table) (s heads set other : List ℕ) → length heads ≡ window_words → length set ≡ window_words
    → length other ≡ window_words
    → RoundsChosen t s 0 (replicate rows_words 0) heads set other
rounds_start t s heads set other a b c =
    record {
      room = length-replicate {A = ℕ} rows_words 0;
      chosen = λ j h. absurd (omega arith);
      blank = λ e h k. empty_has rows_words e;
      room-heads = a;
      room_set = b;
      room_other = c;
    }

-- Windows asked one after another: the codepoints before the window at `base` pass the test.
pub record Asked (t : Table) (s : List ℕ) (q : ℕ → Bool) (rows heads set other : List ℕ) (base : ℕ) : Type 0 where
  pub chosen : RoundsChosen t s 4 rows heads set other
  pub even : base % 0x10000 ≡ 0
  pub passed : Passed q base

module _ (t : Table) (s : List ℕ) (q : ℕ → Bool) (rows heads set other : List ℕ) where
  pub asked_start : RoundsChosen t s 4 rows heads set other → Asked t s q rows heads set other 0
  asked_start w = record { chosen = w; even = refl; passed = λ d h. absurd (omega arith) }

  module _ (base : ℕ) (w : Asked t s q rows heads set other base) where
    pub asked_on : (heads' set' other' : List ℕ) → length heads' ≡ window_words → length set' ≡ window_words → length other' ≡ window_words
        → Passed q (base + 0x10000) → Asked t s q rows heads' set' other' (base + 0x10000)
    asked_on heads' set' other' a b c p =
        record {
          chosen = record {
            room = w.chosen.room;
            chosen = w.chosen.chosen;
            blank = w.chosen.blank;
            room-heads = a;
            room_set = b;
            room_other = c;
          };
          even = omega (arith, w.even);
          passed = p;
        }

    pub asked_held : (heads' set' other' : List ℕ) → Reached t s 4 base rows heads' set' other' → Holding base set' (after 4 t s)
    asked_held heads' set' other' r = r.each w.chosen.chosen
