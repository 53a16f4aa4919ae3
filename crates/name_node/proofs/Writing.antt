-- What the writer answers on one codepoint that is a scalar value: its octets, in an array of four bytes.
use Prim.Native.Nat.{ℕ, ◌≤◌}
use native.Mathlib.Omega.{arith}
use mathlib.Core.Path.{◌≡◌, refl, sym, ap, ◌∙◌}
use mathlib.Core.Bool.{true}
use mathlib.Core.List.{List, [], ◌∷◌, append-nil}
use lib.ListN.{length, take, replicate}
use Rattle.answers.specs.Verdict.{accepted, refused}
use Rattle.scalar.specs.Scalar.{is_scalar}
use Rattle.utf8_scheme.specs.Scheme.{octets, write}
use Rattle.utf8_scheme.specs.Reading.{octets_few}
use Rattle.utf8.specs.Promise.{WriteCalls}
use Rattle.utf8.specs.Callers.{Given, was_written, was_not_scalar, was_too_long, no_byte_written}
use Rattle.utf8.specs.declared.Utf8Error.{Utf8Error}
use Rattle.utf8.specs.declared.Utf8Error.TheVariants.{IllFormed, NotScalar, TooLittleRoom}
use Rattle.std.specs.Prelude.{Ok, Err}
use Rattle.name_node.specs.Octets.{scalars_written}

module _ (c : ℕ) (scalar : is_scalar c ≡ true) (after : List ℕ) where
  due : write (c ∷ []) ≡ accepted (octets c)
  due = scalars_written (c ∷ []) (scalar, tt) ∙ ap accepted (append-nil (octets c))

  same : (text : List ℕ) → write (c ∷ []) ≡ accepted text → text ≡ octets c
  same text e = let z : accepted text ≡ accepted (octets c) = sym e ∙ due in cc

  module _ (n : ℕ) (told : WriteCalls (c ∷ []) (replicate 4 0) after (Ok n)) where
    given : Given (write (c ∷ [])) 4 after n
    given = was_written (c ∷ []) (replicate 4 0) after n told

    pub one-room : n ≤ length after
    one-room = omega (arith, given.fits, given.long)

    pub one_written : take n after ≡ octets c
    one_written = given.front ∙ same given.text given.is

  -- it answers nothing else
  pub one_only : (r : Utf8Error) → WriteCalls (c ∷ []) (replicate 4 0) after (Err r) → ⊥
  one_only (NotScalar at) told =
      let z : accepted (octets c) ≡ refused 4 at = sym due ∙ was_not_scalar (c ∷ []) (replicate 4 0) after at told in
      let w : ◌≡◌ {A = ℕ} 0 1 = cc in
      omega arith
  one_only (IllFormed at) told = no_byte_written (c ∷ []) (replicate 4 0) after at told
  one_only TooLittleRoom told =
      let g = was_too_long (c ∷ []) (replicate 4 0) after told in
      omega (arith, g.over, octets_few c, ap length (same g.text g.is))
