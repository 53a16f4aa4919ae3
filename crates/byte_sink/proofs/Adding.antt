-- Laws of what is put into a buffer: nothing, one byte, and one text behind the other.
use Prim.Native.Nat.{ℕ, ◌+◌, ◌/◌, ◌%◌, ◌≤◌, ◌<◌}
use native.Mathlib.Numerals.{add-one}
use native.Mathlib.Nat.{mod-lt}
use native.Mathlib.Omega.{arith}
use mathlib.Core.Path.{◌≡◌, refl, ◌∙◌}
use Rattle.std.specs.Prelude.{Some, None}
use mathlib.Core.List.{List, [], ◌∷◌, ◌++◌, append_assoc, append-nil}
use lib.ListN.{length, set, take, length-append, length-set, get_or}
use lib.Seq.{take-suc-set, take-suc, take_all}
use Rattle.numerals.specs.Numeral.{digit_byte, numeral}
use Rattle.numerals.proofs.Laws.{numeral-one, numeral_more}
use Rattle.byte_sink.specs.declared.Sink.{Sink}
use Rattle.byte_sink.specs.Sinks.{Fits, Holds, Adds}

-- nothing was done yet
pub holds-none : (now : List ℕ) → Holds [] now (record { at = Some 0 })
holds-none now = record { is = record { count = refl; room = omega arith; front = refl } }

module _ (before : List ℕ) (s : Sink) where
  pub adds_none : Adds before before [] s s
  adds_none = record { same = refl; holds = λ done h. rw (append-nil done) h }

  module _ (b : ℕ) where
    -- no room before
    pub put_full : s.at ≡ None → Adds before before (b ∷ []) s s
    put_full e =
        record {
          same = refl;
          holds = λ done h.
              let over : length before < length done = rw e at h.is in
              record { is = rw (e, length-append) (omega (arith, over)) };
        }

    module _ (at : ℕ) (e : s.at ≡ Some at) where
      -- the byte is stored
      pub put_stored : at < length before → Adds before (set before at b) (b ∷ []) s (record { at = Some (at + 1) })
      put_stored h =
          record {
            same = length-set before at b;
            holds = λ done d.
                let f : Fits done before at = rw e at d.is in
                record {
                  is =
                      record {
                        count = rw length-append (omega (arith, f.count));
                        room = rw length-set (omega arith);
                        front = rw (add-one at, take-suc-set before at b h, f.front);
                      };
                };
          }

      -- it finds no room
      pub put_over : length before ≤ at → Adds before before (b ∷ []) s (record { at = None })
      put_over h =
          record {
            same = refl;
            holds = λ done d.
                let f : Fits done before at = rw e at d.is in
                record { is = rw length-append (omega (arith, f.count)) };
          }

-- one text behind the other
pub adds_then : {before mid after a b : List ℕ} {s q r : Sink} → Adds before mid a s q → Adds mid after b q r → Adds before after (a ++ b) s r
adds_then {before} {mid} {after} {a} {b} {s} {q} {r} x y =
    record {
      same = y.same ∙ x.same;
      holds = λ done h. rw (append_assoc done a b) at (y.holds (done ++ a) (x.holds done h));
    }

-- the first i bytes of a word
pub record Wording (word before after : List ℕ) (s r : Sink) (i : ℕ) : Type 0 where
  pub inside : i ≤ length word
  pub put : Adds before after (take i word) s r

module _ (word before : List ℕ) (s : Sink) where
  pub wording_start : Wording word before before s s 0
  wording_start = record { inside = omega arith; put = adds_none before s }

  module _ (now : List ℕ) (r : Sink) (i : ℕ) (w : Wording word before now s r i) where
    pub wording_more : i < length word → (b : ℕ) → b ≡ get_or word i 0 → (after : List ℕ) (q : Sink) → Adds now after (b ∷ []) r q
        → Wording word before after s q (i + 1)
    wording_more h b e after q p =
        let more : take (i + 1) word ≡ take i word ++ (b ∷ []) = rw (add-one i, take-suc word i 0 h, e) in
        record { inside = omega arith; put = rw more (adds_then w.put p) }

    pub wording_end : length word ≤ i → Adds before now word s r
    wording_end h = rw (take_all i word h) at w.put

-- the digits of a number
module _ (base n : ℕ) where
  pub put_digit : (before after : List ℕ) (s r : Sink) (d : ℕ) → n < base → d ≡ digit_byte n → Adds before after (d ∷ []) s r → Adds before after (numeral base n) s r
  put_digit before after s r d h e p = rw (numeral-one base n h, ← e) p

  pub put_digits : (before mid after : List ℕ) (s q r : Sink) (d : ℕ) → 2 ≤ base → base ≤ n → d ≡ digit_byte (n % base)
      → Adds before mid (numeral base (n / base)) s q → Adds mid after (d ∷ []) q r → Adds before after (numeral base n) s r
  put_digits before mid after s q r d b h e x y = rw (numeral_more base n b h, ← e) (adds_then x y)

  pub small_digit : 2 ≤ base → base ≤ 16 → n % base < 16
  small_digit b m = omega (arith, mod-lt n {m = base} (omega arith))
