-- 02, Item 7: "A second crate keeps payees in a lent area of u32: 16 front words, the part that the reset skips, then 64 slots of 264 words
-- (length, 255 words of normal form, 8 words of account)."
use Rattle.std.specs.Prelude.{ℕ, zero, suc, Bool, ◌&&◌, List, [], ◌∷◌, ◌++◌, length, get_or, take, drop, replicate, eqb}
use Rattle.std.proofs.Math.Option.{Option, some}
use Rattle.lists.specs.Lists.{joined_map, on_some, place_with, same_list}
use Rattle.lists.specs.Filled.{filled}

abbrev pub front_size : ℕ
front_size = 16

abbrev pub slot_count : ℕ
slot_count = 64

abbrev pub form_room : ℕ
form_room = 255

abbrev pub account_size : ℕ
account_size = 8

-- a length, the words of a form, the words of an account
abbrev pub slot_size : ℕ
slot_size = 264

-- the front words, and 64 slots
abbrev pub area_size : ℕ
area_size = 16912

-- "length, 255 words of normal form, 8 words of account"
pub record Slot : Type 0 where
  pub size : ℕ
  pub words : List ℕ
  pub account : List ℕ

-- the words of a slot are that, in this order
abbrev pub in_slot : Slot → List ℕ
in_slot s = s.size ∷ s.words ++ s.account

-- the slot that 264 words hold
abbrev pub slot_of : List ℕ → Slot
slot_of ws = record { size = get_or ws 0 0; words = take form_room (drop 1 ws); account = drop 256 ws }

-- the n slots that stand one behind the other
unfoldable pub slots_of : ℕ → List ℕ → List Slot
slots_of zero ws = []
slots_of (suc n) ws = slot_of (take slot_size ws) ∷ slots_of n (drop slot_size ws)

-- the slots of an area
abbrev pub slots_in : List ℕ → List Slot
slots_in area = slots_of slot_count (drop front_size area)

-- the area with its front words as they are and these slots
abbrev pub with_slots : List ℕ → List Slot → List ℕ
with_slots area slots = take front_size area ++ joined_map in_slot slots

-- a free slot, "which is zeroed"
unfoldable pub empty_slot : Slot
empty_slot = record { size = 0; words = replicate form_room 0; account = replicate account_size 0 }

-- a slot that holds a form and an account
abbrev pub slot_for : List ℕ → List ℕ → Slot
slot_for form account = record { size = length form; words = filled form_room form; account = account }

-- Length alone marks a filed slot: a normal form may hold the codepoint 0, and an account may be all zeros.
abbrev pub is_free : Slot → Bool
is_free s = eqb s.size 0

-- the name under which a slot is filed
abbrev pub name_of : Slot → List ℕ
name_of s = take s.size s.words

-- Whether a slot has this name: two names are equal when their lengths and their words are.
unfoldable pub has_name : List ℕ → Slot → Bool
has_name form s = eqb s.size (length form) && same_list (name_of s) form

-- the slot that save takes: "Save of a filed name replaces its account, otherwise takes the lowest free slot"
unfoldable pub spot_for : List ℕ → List Slot → Option ℕ
unfolding has_name
spot_for form slots = on_some (place_with (has_name form) 0 slots) some (place_with is_free 0 slots)
