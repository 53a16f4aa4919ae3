-- What the functions of this crate and the inner ones of `moved` answer.
use Rattle.std.specs.Prelude.{ℕ, ◌≤◌, ◌≡◌, Bool, true, cond, List, [], ◌∷◌, length, Result, Option as Answer, Some, None}
use Rattle.std.proofs.Math.Option.{Option, none, some}
use Rattle.lists.specs.Lists.{joined_map, on_some}
use Rattle.answers.specs.Verdict.{Verdict, accepted}
use Rattle.ending.specs.Ends.{Judged}
use Rattle.book_slots.specs.Book.{Slot, slot_count, is_free, name_of}
use Rattle.listing.specs.Filling.{Holds}
use Rattle.name.specs.Parts.{Put}
use Rattle.refiled.specs.Refiled.{refiled_verdict}
use Rattle.moved_list.specs.declared.MovedError.{MovedError}
use Rattle.moved_list.specs.Moved.{in_list, moved_from, moved_before33, moved_listing}
use Rattle.moved_list.specs.Promise.{moved_values}

-- whether the name of a slot stays as it is filed, or the refusal with its place; a free slot stays
unfoldable pub slot_verdict : List ℕ → ℕ → Slot → Verdict Bool
unfolding refiled_verdict
slot_verdict words work s = cond (is_free s) (accepted true) (refiled_verdict words work (name_of s))

-- the number beside a slot, whatever number it is
abbrev pub number_is : Answer ℕ → Option ℕ
number_is None = none
number_is (Some n) = some n

-- the words of a slot's entry, none where it stays
abbrev pub entry_words : ℕ → Option ℕ → List ℕ
entry_words slot c = on_some c (λ n. slot ∷ n ∷ []) []

-- they are put behind the first `len` words of the list, if there is room
abbrev pub EntryPut : ℕ → Option ℕ → List ℕ → List ℕ → ℕ → ℕ → Type 0
EntryPut slot c list list' len r = Put list list' len true (entry_words slot c) r

-- the entries of the slots stand in the list, as far as they fit; the words of the work area are open
pub record SlotsListed (words : List ℕ) (slots : List Slot) (list list' w w' : List ℕ) (r : ℕ) : Type 0 where
  pub holds : Holds (joined_map in_list (moved_from words (length w) 0 slots)) list list' r
  pub same-work : length w' ≡ length w

-- how many entries an answer has
abbrev pub moved_entries : Result ℕ MovedError → ℕ
moved_entries r = (moved_values r).entries

-- what is judged before 33
pub record MovedJudged (words area list list' work work' : List ℕ) (r : Result ℕ MovedError) : Type 0 where
  pub judged : Judged moved_listing (moved_before33 words area (length work)) list list' work work' (moved_values r)
  pub few : moved_entries r ≤ slot_count
