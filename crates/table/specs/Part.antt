-- Lookups over the words of one section, without a table in between, and how a walk over its records stands.
use Rattle.std.specs.Prelude.{ℕ, ◌+◌, ◌≤◌, ◌<◌, ◌≡◌, Bool, true, false, ◌&&◌, ◌||◌, cond, List, [], ◌∷◌, length, get_or, take, drop, leb, Some, None, MatchOption, ⊤, is_some as is_there}
use Rattle.std.specs.declared.option.Option as std
use Rattle.std.specs.Borrow.{Bor}
use Rattle.std.proofs.Math.Option
use Rattle.std.proofs.Math.Option.{Option, none, some}
use Rattle.lists.specs.Lists.{is_some}
use Rattle.table.specs.declared.Span.{Span}
use Rattle.table.specs.declared.WholeLists.{WholeLists}
use Rattle.table.specs.Spans.{within, Fits, items_at, ItemsFit}
use Rattle.table.specs.Table.{ClassRange, Headed, Group, Whole}
use Rattle.table.specs.Layout.{most_items, most_class, headed, sequences, groups, wholes}
use Rattle.table.specs.Lookup.{table_class}

-- c lies in one of the pairs
unfoldable pub in_pairs : ℕ → List ℕ → Bool
in_pairs c [] = false
in_pairs c (a ∷ []) = false
in_pairs c (a ∷ b ∷ ws) = (leb a c && leb c b) || in_pairs c ws

-- the class of the first triple with c, or 0
unfoldable pub class_among : ℕ → List ℕ → ℕ
class_among c [] = 0
class_among c (a ∷ []) = 0
class_among c (a ∷ b ∷ []) = 0
class_among c (a ∷ b ∷ k ∷ ws) = let rest = class_among c ws in cond (leb a c && leb c b) k rest

-- c lies in one of four pairs, of which the first stands at i and each other one `step` words behind the one before it
abbrev pub in_four : ℕ → List ℕ → ℕ → ℕ → Bool
in_four c ws i step =
    let at : ℕ → Bool = λ j. leb (get_or ws j 0) c && leb c (get_or ws (j + 1) 0) in
    (at i || at (i + step)) || (at (i + step + step) || at (i + step + step + step))

-- the entries of `step` words up to i have no part in whether c lies in a pair, and none in its class
pub record Passed (step c : ℕ) (ws : List ℕ) (i : ℕ) : Type 0 where
  pub inside : i ≤ length ws
  pub pairs : step ≡ 2 → in_pairs c ws ≡ in_pairs c (drop i ws)
  pub triples : step ≡ 3 → class_among c ws ≡ class_among c (drop i ws)

-- the class that an entry gives
abbrev pub entry_class : std.Option (Bor (List ℕ)) → ℕ
entry_class (Some e) = get_or e.now 2 0
entry_class None = 0

-- what a search for an entry of `step` words with c answers
pub record EntryFound (step c : ℕ) (ws : List ℕ) (r : std.Option (Bor (List ℕ))) : Type 0 where
  pub size : MatchOption r ⊤ (λ e. length e.now ≡ step)
  pub pairs : step ≡ 2 → is_there r ≡ in_pairs c ws
  pub triples : step ≡ 3 → entry_class r ≡ class_among c ws

-- a class found for c
pub record ClassFound (rs : List ClassRange) (c r : ℕ) : Type 0 where
  pub same : r ≡ table_class rs c
  pub small : r ≤ most_class

-- the items whose count stands at `at`
abbrev pub counted_at : List ℕ → ℕ → Span
counted_at ws at = record { from = at + 1; to = at + 1 + get_or ws at 0 }

-- the records of a part, as `reader` reads them: headed, sequences, groups or wholes
unfoldable pub records_in : {X : Type 0} → (ℕ → List ℕ → Option (List X)) → List ℕ → List X
records_in reader part = Option.get_or (reader (length part) part) []

-- those head, count, items, whose items are at most 32 each, and the wholes
abbrev pub heads_in : List ℕ → List Headed
heads_in part = records_in (λ steps. headed steps most_items) part

abbrev pub wholes_in : List ℕ → List Whole
wholes_in part = records_in wholes part

-- at least one item
abbrev pub Filled : std.Option Span → Type 0
Filled (Some s) = s.from < s.to
Filled None = Unit {0}

-- what a lookup of items answers: their places within the words, at least one and at most `most`
pub record ItemsFound (ws : List ℕ) (most : ℕ) (items : Option (List ℕ)) (r : std.Option Span) : Type 0 where
  pub same : items_at ws r ≡ items
  pub fit : ItemsFit ws most r
  pub filled : Filled r

-- the whole that an answer of a lookup stands for
abbrev pub whole_at : List ℕ → std.Option WholeLists → Option Whole
whole_at ws (Some w) = some (record { valid = within w.valid ws; confused = within w.confused ws })
whole_at ws None = none

-- both of its lists lie within the words
abbrev pub WholeFits : List ℕ → std.Option WholeLists → Type 0
WholeFits ws (Some w) = Fits ws w.valid × Fits ws w.confused
WholeFits ws None = Unit {0}

-- what a lookup of a whole answers
pub record WholeFound (ws : List ℕ) (whole : Option Whole) (r : std.Option WholeLists) : Type 0 where
  pub same : whole_at ws r ≡ whole
  pub fits : WholeFits ws r

-- a part that lies within the words and parses as wholes
pub record WholesPart (ws : List ℕ) (s : Span) : Type 0 where
  pub fits : Fits ws s
  pub parses : is_some (wholes (length (within s ws)) (within s ws)) ≡ true

-- The words of a part from `at` on are the records xs, as `reader` reads them: headed, sequences, groups or wholes. How often a reader may
-- step is left open: any bound that is enough serves.
pub record RecordsAt {X : Type 0} (reader : ℕ → List ℕ → Option (List X)) (part : List ℕ) (at : ℕ) (xs : List X) : Type 0 where
  pub inside : at ≤ length part
  pub steps : ℕ
  pub parses : reader steps (drop at part) ≡ some xs

-- records head, count, items
abbrev pub HeadedAt : ℕ → List ℕ → ℕ → List Headed → Type 0
HeadedAt most = RecordsAt (λ steps. headed steps most)

-- records count, items
abbrev pub SequencesAt : List ℕ → ℕ → List (List ℕ) → Type 0
SequencesAt = RecordsAt sequences

-- records flags, word count, pairs, and with flag 4 a list
abbrev pub GroupsAt : List ℕ → ℕ → List Group → Type 0
GroupsAt = RecordsAt groups

-- records valid count, items, confused count, items
abbrev pub WholesAt : List ℕ → ℕ → List Whole → Type 0
WholesAt = RecordsAt wholes

-- What stands at a place where records are left: the first of them, and behind it the rest.
pub record HeadedHere (most : ℕ) (part : List ℕ) (at : ℕ) (xs : List Headed) : Type 0 where
  pub first : Headed
  pub rest : List Headed
  pub split : xs ≡ first ∷ rest
  pub head : first.head ≡ get_or part at 0
  pub items : first.items ≡ take (get_or part (at + 1) 0) (drop (at + 2) part)
  pub low : 1 ≤ get_or part (at + 1) 0
  pub high : get_or part (at + 1) 0 ≤ most
  pub fits : at + 2 + get_or part (at + 1) 0 ≤ length part
  pub next : HeadedAt most part (at + 2 + get_or part (at + 1) 0) rest

pub record SequenceHere (part : List ℕ) (at : ℕ) (xs : List (List ℕ)) : Type 0 where
  pub first : List ℕ
  pub rest : List (List ℕ)
  pub split : xs ≡ first ∷ rest
  pub items : first ≡ take (get_or part at 0) (drop (at + 1) part)
  pub low : 1 ≤ get_or part at 0
  pub high : get_or part at 0 ≤ most_items
  pub fits : at + 1 + get_or part at 0 ≤ length part
  pub next : SequencesAt part (at + 1 + get_or part at 0) rest

-- the place of the confused count of the whole at `at`
abbrev pub confused_at : List ℕ → ℕ → ℕ
confused_at part at = at + 1 + get_or part at 0

pub record WholeHere (part : List ℕ) (at : ℕ) (xs : List Whole) : Type 0 where
  pub first : Whole
  pub rest : List Whole
  pub split : xs ≡ first ∷ rest
  pub valid : first.valid ≡ take (get_or part at 0) (drop (at + 1) part)
  pub confused : first.confused ≡ take (get_or part (confused_at part at) 0) (drop (confused_at part at + 1) part)
  pub fits : confused_at part at + 1 + get_or part (confused_at part at) 0 ≤ length part
  pub next : WholesAt part (confused_at part at + 1 + get_or part (confused_at part at) 0) rest
