-- What the check asks of the words of one section, and how those words hold the records of a table.
use Rattle.std.specs.Prelude.{ℕ, ◌+◌, ◌<◌, ◌≤◌, ◌≡◌, Bool, true, ◌&&◌, List, [], ◌∷◌, ◌++◌, length, Some, None, MatchOption, ⊤}
use Rattle.std.specs.declared.option.Option as std
use Rattle.std.proofs.Math.Option.{Option}
use Rattle.lists.specs.Lists.{all, is_some}
use Rattle.table.specs.declared.Span.{Span}
use Rattle.table.specs.Spans.{within, Fits}
use Rattle.table.specs.Table.{Headed, ClassRange, Whole, Table}
use Rattle.table.specs.Layout.{most_items, headed, sequences}
use Rattle.table.specs.Part.{records_in}
use Rattle.table.specs.Lookup.{in_ranges}
use Rattle.scalar.specs.Scalar.{is_scalar}
use Rattle.soundness.specs.Pairs.{spares_hangul}
use Rattle.soundness.specs.Scalars.{scalars_between, scalar_ranges, scalar_headed, scalar_group}

-- every pair first, last passes the test
unfoldable pub all_pairs : (ℕ → ℕ → Bool) → List ℕ → Bool
all_pairs p [] = true
all_pairs p (a ∷ []) = true
all_pairs p (a ∷ b ∷ ws) = p a b && all_pairs p ws

-- every triple first, last, class passes the test
unfoldable pub all_triples : (ℕ → ℕ → ℕ → Bool) → List ℕ → Bool
all_triples p [] = true
all_triples p (a ∷ []) = true
all_triples p (a ∷ b ∷ []) = true
all_triples p (a ∷ b ∷ k ∷ ws) = p a b k && all_triples p ws

-- whether a part holds records, as `reader` reads them
abbrev pub Holds : {X : Type 0} → (ℕ → List ℕ → Option (List X)) → List ℕ → Type 0
Holds reader part = is_some (reader (length part) part) ≡ true

-- the records of a group's list, by its place; without a list there are none
abbrev pub list_records : List ℕ → std.Option Span → List (List ℕ)
list_records part (Some s) = records_in sequences (within s part)
list_records part None = []

-- a group's list, if it has one, lies within the words and holds records
abbrev pub ListHolds : List ℕ → std.Option Span → Type 0
ListHolds part r = MatchOption r ⊤ (λ s. Fits part s × Holds sequences (within s part))

-- the words are those of the table's sequences
pub record EmojiPart (t : Table) (part : List ℕ) : Type 0 where
  pub holds : Holds sequences part
  pub are : records_in sequences part ≡ t.emoji

-- a record of this head and these items
abbrev pub record_of : ℕ → List ℕ → Headed
record_of h items = record { head = h; items = items }

-- records head, count, items
abbrev pub as_headed : ℕ → List ℕ → Option (List Headed)
as_headed steps = headed steps most_items

-- the codepoints of a class entry and of a whole are scalar values
abbrev pub scalar_triple : ℕ → ℕ → ℕ → Bool
scalar_triple a b k = scalars_between a b

abbrev pub scalar_whole : Whole → Bool
scalar_whole w = all is_scalar (w.valid ++ w.confused)

-- Rule 1 in parts: the first sections of pairs, those of records, the other ones of 01; then each section that came later
unfoldable pub ranges_scalar : Table → Bool
ranges_scalar t =
    scalar_ranges t.valid && scalar_ranges t.ignored && scalar_ranges t.fenced && scalar_ranges t.marks
    && scalar_ranges t.nsm

unfoldable pub records_scalar : Table → Bool
records_scalar t = scalar_headed t.mapped && scalar_headed t.decompositions && all (all is_scalar) t.emoji && all is_scalar t.exclusions

unfoldable pub others_scalar : Table → Bool
others_scalar t =
    all (λ (r : ClassRange). scalars_between r.first r.last) t.classes && all scalar_group t.groups && all scalar_whole t.wholes

-- Rule 3: c is valid, and a mapping's items are
abbrev pub is_valid : Table → ℕ → Bool
is_valid t c = in_ranges c t.valid

abbrev pub maps_to_valid : Table → Headed → Bool
maps_to_valid t r = all (is_valid t) r.items

-- the items of a section of one record count, items
abbrev pub behind_count : Span → Span
behind_count s = record { from = s.from + 1; to = s.to }

pub record ExcludedFits (ws : List ℕ) (s : Span) : Type 0 where
  pub some_left : s.from < s.to
  pub inside : s.to ≤ length ws

-- a record's head and items are scalar values
abbrev pub scalar_record : ℕ → List ℕ → Bool
scalar_record h items = is_scalar h && all is_scalar items

abbrev pub scalar_lists : List ℕ → List ℕ → Bool
scalar_lists v k = all is_scalar (v ++ k)

abbrev pub valid_lists : Table → ℕ → List ℕ → Bool
valid_lists t h items = all (is_valid t) items

-- an entry first, last, class gives no jamo and no syllable a class other than 0
abbrev pub spares_triple : ℕ → ℕ → ℕ → Bool
spares_triple a b k = spares_hangul (record { first = a; last = b; class = k })
