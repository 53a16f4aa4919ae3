-- The definition on numbers of each kind, as the bytes of their digits.
use Rattle.std.specs.Prelude.{◌≡◌, refl, [], ◌∷◌, map}
use Rattle.lists.specs.Text.{bytes}
use Rattle.numerals.specs.Numeral.{numeral}

pub in_hex : map (numeral 16) (0 ∷ 0xA ∷ 0x10 ∷ 0x1F4A9 ∷ 0xFFFFFFFF ∷ []) ≡ map bytes ("0" ∷ "A" ∷ "10" ∷ "1F4A9" ∷ "FFFFFFFF" ∷ [])
unfolding numeral
in_hex = refl

pub in_decimal : map (numeral 10) (0 ∷ 9 ∷ 10 ∷ 4095 ∷ 18446744073709551615 ∷ []) ≡
    map bytes ("0" ∷ "9" ∷ "10" ∷ "4095" ∷ "18446744073709551615" ∷ [])
unfolding numeral
in_decimal = refl
