-- Inputs and the parts that remain, and where they start.
use Rattle.std.specs.Prelude.{ℕ, ◌≡◌, refl, List, [], ◌∷◌, map}
use Rattle.trim.specs.Trim.{is_blank, off_front, off_back, remaining, start_of}

pub record Case : Type 0 where
  pub input : List ℕ
  pub part : List ℕ
  pub start : ℕ

abbrev pub cases : List Case
cases =
    record { input = []; part = []; start = 0 }
    ∷ record { input = 0x20 ∷ 0x61 ∷ 0x20 ∷ []; part = 0x61 ∷ []; start = 1 }
    -- nothing off the middle
    ∷ record { input = 0x61 ∷ 0x20 ∷ 0x9 ∷ 0x62 ∷ []; part = 0x61 ∷ 0x20 ∷ 0x9 ∷ 0x62 ∷ []; start = 0 }
    -- every blank
    ∷ record { input = 0x9 ∷ 0xA ∷ 0xD ∷ 0x20 ∷ 0x61 ∷ 0xD ∷ 0xA ∷ []; part = 0x61 ∷ []; start = 4 }
    -- blanks alone
    ∷ record { input = 0x20 ∷ 0x20 ∷ 0xA ∷ []; part = []; start = 3 }
    -- B, C and A0 are none
    ∷ record { input = 0xB ∷ 0x61 ∷ 0xC ∷ 0xA0 ∷ 0x20 ∷ []; part = 0xB ∷ 0x61 ∷ 0xC ∷ 0xA0 ∷ []; start = 0 }
    ∷ []

pub parts : map (λ k. remaining k.input) cases ≡ map (λ k. k.part) cases
unfolding is_blank off_front off_back remaining
parts = refl

pub starts : map (λ k. start_of k.input) cases ≡ map (λ k. k.start) cases
unfolding is_blank start_of
starts = refl
