-- 41, "damaged (a length over 255, words past a length not zero, an account in a slot of length 0, or two filed slots with one name)". The
-- bracket is all of it: a filed slot may hold any words, and such a slot only fills its place.
use Rattle.std.specs.Prelude.{ℕ, Bool, false, not, ◌&&◌, ◌||◌, List, [], ◌∷◌, drop, eqb, ltb}
use Rattle.lists.specs.Lists.{all, any}
use Rattle.book_slots.specs.Book.{form_room, Slot, is_free, name_of, has_name}

-- every word is zero
abbrev pub zeros : List ℕ → Bool
zeros s = all (λ w. eqb w 0) s

-- "a length over 255, words past a length not zero, an account in a slot of length 0"
unfoldable pub slot_damaged : Slot → Bool
slot_damaged s = ltb form_room s.size || (not (zeros (drop s.size s.words)) || is_free s && not (zeros s.account))

-- "two filed slots with one name": a filed slot has the name of one before it
unfoldable pub name_twice : List Slot → Bool
unfolding has_name
name_twice [] = false
name_twice (s ∷ rest) = not (is_free s) && any (has_name (name_of s)) rest || name_twice rest

unfoldable pub damaged : List Slot → Bool
unfolding slot_damaged name_twice
damaged slots = any slot_damaged slots || name_twice slots
