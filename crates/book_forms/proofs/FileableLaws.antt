-- 42 and 43 of a form.
use Prim.Native.Nat.{ℕ, ◌≤◌, ◌<◌}
use native.Mathlib.Omega.{arith}
use mathlib.Core.Path.{◌≡◌, refl}
use mathlib.Core.Bool.{Bool, true, false, cond}
use mathlib.Core.List.{List, [], ◌∷◌}
use lib.ListN.{length}
use lib.Dec.{ltb}
use borrow.Author.Tests.{lt-ltb, le-ltb, ltb-false}
use Rattle.lists.specs.Laws.{not_empty}
use Rattle.answers.specs.Verdict.{Verdict, accepted, refused}
use Rattle.book_slots.specs.Book.{form_room}
use Rattle.book_answers.specs.Calls.{fileable}

pub empty_form : (form : List ℕ) → length form ≡ 0 → fileable form ≡ refused 42 0
empty_form [] e = refl
empty_form (c ∷ s) e = absurd (omega arith)

module _ (form : List ℕ) where
  pub long_form : (length form ≡ 0 → ⊥) → form_room < length form → fileable form ≡ refused 43 0
  long_form g k = rw (not_empty form (omega (arith, g)), lt-ltb form_room (length form) k)

  pub short_form : (length form ≡ 0 → ⊥) → length form ≤ form_room → fileable form ≡ accepted form
  short_form g k = rw (not_empty form (omega (arith, g)), le-ltb form_room (length form) k)

-- a form that can be filed has a length that a slot has room for
pub filed_short : (form f : List ℕ) → fileable form ≡ accepted f → length form ≤ form_room
filed_short [] f e = omega arith
filed_short (c ∷ s) f e = go (ltb form_room (length (c ∷ s))) (ltb-false form_room (length (c ∷ s))) e
  where
    go : (b : Bool) → (b ≡ false → length (c ∷ s) ≤ form_room) → cond b (refused 43 0) (accepted (c ∷ s)) ≡ accepted f → length (c ∷ s) ≤ form_room
    go true h k = absurd (let z : ◌≡◌ {A = ℕ} 0 1 = cc in omega arith)
    go false h k = h refl
