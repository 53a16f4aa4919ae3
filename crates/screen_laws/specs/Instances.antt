-- Closed screen forms by the small table, a closed instance of the theorem (`small_restored`, in proofs/InstanceLaws), and for each of its hypotheses
-- a table that breaks just that one. Assumes nothing.
use Rattle.std.specs.Prelude.{ℕ, ◌≡◌, refl, Bool, true, false, List, [], ◌∷◌, map}
use Rattle.std.proofs.Math.Option.{Option, none, some}
use Rattle.lists.specs.Lists.{any, joined, mem}
use Rattle.limits.specs.Limits.{least_work}
use Rattle.answers.specs.Verdict.{Verdict, accepted, refused, next}
use Rattle.answers.specs.declared.Kind.TheVariants.{Group}
use Rattle.table.specs.Lookup.{in_ranges, items_of}
use Rattle.table.specs.Layout.{the_table}
use Rattle.places.specs.Places.{emoji, text}
use Rattle.soundness.specs.Soundness.{soundness_of}
use Rattle.name.specs.Name.{name_answer, name_before15}
use Rattle.forms.specs.Forms.{Typed, name_form, screen_form}
use Rattle.screen.specs.Screen.{screen_before15, screen_verdict}
use Rattle.cases.specs.SmallTable.{section, small_table}
use Rattle.screen_laws.specs.Rendered.{Restores}

-- the screen form and the normal form of a name, with room for any
unfoldable pub screen_of : List ℕ → ℕ → List ℕ → Verdict (List ℕ)
unfolding screen_before15 name_form screen_form
screen_of words greek name = next (screen_before15 0 words name least_work) (λ xs. accepted (name_form (screen_form (the_table words) greek) xs))

unfoldable pub normal_of : List ℕ → List ℕ → Verdict (List ℕ)
unfolding name_before15 name_answer
normal_of words name = next (name_before15 0 words name least_work) (λ ls. accepted (name_answer ls))

-- By the small table, in which group 1 is Greek and 3 is one beyond the last.
pub record Shown : Type 0 where
  pub greek : ℕ
  pub name : List ℕ
  pub due : List ℕ

-- the bare heart and keycap 1 have every FE0F, whatever was typed; 3BE is shown as 39E unless the label's kind is the Greek group; a text with a mark
-- is in NFC; last the examples of 000, "Annex: Beautification": 2D 3BE 31 20E3, and 2010 39E 31 FE0F 20E3, whose normal form that is
unfoldable pub shows : List Shown
shows =
    record { greek = 1; name = 0x2764 ∷ []; due = 0x2764 ∷ 0xFE0F ∷ [] }
    ∷ record { greek = 1; name = 0x2764 ∷ 0xFE0F ∷ 0x31 ∷ 0x20E3 ∷ []; due = 0x2764 ∷ 0xFE0F ∷ 0x31 ∷ 0xFE0F ∷ 0x20E3 ∷ [] }
    ∷ record { greek = 1; name = 0x3BE ∷ 0x3C4 ∷ []; due = 0x3BE ∷ 0x3C4 ∷ [] }
    ∷ record { greek = 0; name = 0x3BE ∷ 0x3C4 ∷ []; due = 0x39E ∷ 0x3C4 ∷ [] }
    ∷ record { greek = 3; name = 0x39E ∷ 0x3C4 ∷ []; due = 0x39E ∷ 0x3C4 ∷ [] }
    ∷ record { greek = 0xFFFFFFFF; name = 0x41 ∷ 0x2E ∷ 0x3BE ∷ 0x2764 ∷ []; due = 0x61 ∷ 0x2E ∷ 0x39E ∷ 0x2764 ∷ 0xFE0F ∷ [] }
    ∷ record { greek = 1; name = 0x78 ∷ 0x61 ∷ 0x300 ∷ []; due = 0x78 ∷ 0xE0 ∷ [] }
    ∷ record { greek = 3; name = 0x2D ∷ 0x3BE ∷ 0x31 ∷ 0x20E3 ∷ []; due = 0x2D ∷ 0x39E ∷ 0x31 ∷ 0xFE0F ∷ 0x20E3 ∷ [] }
    ∷ record { greek = 3; name = 0x2010 ∷ 0x39E ∷ 0x31 ∷ 0xFE0F ∷ 0x20E3 ∷ []; due = 0x2D ∷ 0x39E ∷ 0x31 ∷ 0xFE0F ∷ 0x20E3 ∷ [] }
    ∷ []

pub small_shows : map (λ (c : Shown). screen_of small_table c.greek c.name) shows ≡ map (λ (c : Shown). accepted c.due) shows
unfolding screen_of small_table shows
small_shows = refl

-- The theorem on one of them.
pub small_restores : Restores (the_table small_table)
unfolding the_table items_of small_table
small_restores = record { maps = refl; not_valid = refl; in_no_sequence = refl }

-- 3BE and a bare heart, in the Greek group, which the call is not told of
abbrev pub small_labels : List Typed
small_labels =
    record {
      sources = text (0x3BE ∷ []) ∷ emoji (record { number = 2; taken = record { length = 1; selectors = 0 }; stripped = 0x2764 ∷ [] }) ∷ [];
      kind = Group (record { number = 1; restricted = false });
    }
    ∷ []

pub small_accepted : screen_verdict 3 0 small_table (0x3BE ∷ 0x2764 ∷ []) 3 least_work ≡ accepted small_labels
unfolding screen_verdict small_table
small_accepted = refl

pub small_form : name_form (screen_form (the_table small_table) 3) small_labels ≡ 0x39E ∷ 0x2764 ∷ 0xFE0F ∷ []
unfolding name_form screen_form the_table small_table
small_form = refl

-- a table of one group, which is all that is valid
abbrev tiny : List ℕ → List ℕ → List ℕ → List ℕ
tiny valid mapped sequences =
    joined
    (section valid ∷ section [] ∷ section [] ∷ section [] ∷ section [] ∷ section mapped ∷ section [] ∷ section sequences ∷ section (0 ∷ []) ∷ section []
    ∷ section (0 ∷ section valid) ∷ section [] ∷ section [] ∷ section [] ∷ [])

abbrev letters : List ℕ
letters = 0x61 ∷ 0x61 ∷ 0x3BE ∷ 0x3BE ∷ 0x3C4 ∷ 0x3C4 ∷ []

-- 39E to 3BE alone
abbrev capital : List ℕ
capital = 0x39E ∷ 1 ∷ 0x3BE ∷ []

-- the hypotheses, and what becomes of the name: its normal form, its screen form without a Greek group, and the normal form of that
pub record Outcome : Type 0 where
  pub broken : Option ℕ
  pub maps : Option (List ℕ)
  pub valid : Bool
  pub in_sequence : Bool
  pub normal : Verdict (List ℕ)
  pub shown : Verdict (List ℕ)
  pub again : Verdict (List ℕ)

unfoldable pub outcome : List ℕ → List ℕ → Outcome
unfolding soundness_of the_table items_of normal_of screen_of
outcome words name =
    record {
      broken = soundness_of words;
      maps = items_of (the_table words).mapped 0x39E;
      valid = in_ranges 0x39E (the_table words).valid;
      in_sequence = any (mem 0x39E) (the_table words).emoji;
      normal = normal_of words name;
      shown = screen_of words 1 name;
      again = next (screen_of words 1 name) (normal_of words);
    }

abbrev one : ℕ → Verdict (List ℕ)
one c = accepted (c ∷ [])

pub all_hold : outcome (tiny letters capital []) (0x3BE ∷ [])
    ≡ record { broken = none; maps = some (0x3BE ∷ []); valid = false; in_sequence = false; normal = one 0x3BE; shown = one 0x39E; again = one 0x3BE }
unfolding outcome
all_hold = refl

-- 39E is mapped to something else
pub maps_used : outcome (tiny letters (0x39E ∷ 1 ∷ 0x3C4 ∷ []) []) (0x3BE ∷ [])
    ≡ record { broken = none; maps = some (0x3C4 ∷ []); valid = false; in_sequence = false; normal = one 0x3BE; shown = one 0x39E; again = one 0x3C4 }
unfolding outcome
maps_used = refl

-- to 3BE, but not alone
pub alone_used : outcome (tiny letters (0x39E ∷ 2 ∷ 0x3BE ∷ 0x61 ∷ []) []) (0x3BE ∷ [])
    ≡ record { broken = none; maps = some (0x3BE ∷ 0x61 ∷ []); valid = false; in_sequence = false; normal = one 0x3BE; shown = one 0x39E; again = accepted (0x3BE ∷ 0x61 ∷ []) }
unfolding outcome
alone_used = refl

-- 39E is valid, and stays
pub not_valid_used : outcome (tiny (0x39E ∷ 0x39E ∷ letters) capital []) (0x3BE ∷ [])
    ≡ record { broken = none; maps = some (0x3BE ∷ []); valid = true; in_sequence = false; normal = one 0x3BE; shown = one 0x39E; again = one 0x39E }
unfolding outcome
not_valid_used = refl

-- 39E is an emoji sequence
pub no_sequence_used : outcome (tiny letters capital (1 ∷ 0x39E ∷ [])) (0x3BE ∷ [])
    ≡ record { broken = none; maps = some (0x3BE ∷ []); valid = false; in_sequence = true; normal = one 0x3BE; shown = one 0x39E; again = one 0x39E }
unfolding outcome
no_sequence_used = refl

-- the table is not sound: 41 is mapped to 21, which is not valid (rule 3)
pub sound_used : outcome (tiny letters (0x41 ∷ 1 ∷ 0x21 ∷ capital) []) (0x41 ∷ [])
    ≡ record { broken = some 3; maps = some (0x3BE ∷ []); valid = false; in_sequence = false; normal = one 0x21; shown = one 0x21; again = refused 5 0 }
unfolding outcome
sound_used = refl
