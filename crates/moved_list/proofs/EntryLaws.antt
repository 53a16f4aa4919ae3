-- The words of an entry, and of all.
use Prim.Native.Nat.{ℕ}
use native.Mathlib.Omega.{arith}
use mathlib.Core.Path.{◌≡◌, refl, sym}
use mathlib.Core.Bool.{true}
use mathlib.Core.List.{List, [], ◌∷◌, append-nil}
use lib.ListN.{take}
use Rattle.std.specs.Prelude.{Result, Ok, Err, Option as Answer, Some, None}
use Rattle.name.specs.Parts.{Put}
use Rattle.std.specs.Result.{result_unwrap_or}
use Rattle.moved_list.specs.declared.MovedError.{MovedError}
use Rattle.moved_list.specs.Steps.{number_is, EntryPut, moved_entries}

-- what is put into the list for a slot
pub put_nothing : (list : List ℕ) (len slot : ℕ) (c : Answer ℕ) → c ≡ None → EntryPut slot (number_is c) list list len len
put_nothing list len slot c e = rw e (record { same = refl; ends = omega arith; written = λ h. sym (append-nil (take len list)) })

pub put_number : (list list' : List ℕ) (len slot r : ℕ) (c : Answer ℕ) (n : ℕ) → c ≡ Some n → Put list list' len true (slot ∷ n ∷ []) r
    → EntryPut slot (number_is c) list list' len r
put_number list list' len slot r c n e p = rw e p

-- none beside a refusal
pub entries_is : (r : Result ℕ MovedError) → result_unwrap_or r 0 ≡ moved_entries r
entries_is (Ok n) = refl
entries_is (Err e) = refl
