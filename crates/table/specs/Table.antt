-- A name table as a record of fourteen lists. 01, "The table", second paragraph; 02, Items 9, 11 and 12.
use Rattle.std.specs.Prelude.{ℕ, Bool, List}
use Rattle.std.proofs.Math.Option.{Option}

-- "pairs first, last"
pub record Range : Type 0 where
  pub first : ℕ
  pub last : ℕ

-- "triples first, last, class"
pub record ClassRange : Type 0 where
  pub first : ℕ
  pub last : ℕ
  pub class : ℕ

-- "records: head, count, items"
pub record Headed : Type 0 where
  pub head : ℕ
  pub items : List ℕ

-- "records: flags, where 1 is restricted and 2 is CM whitelisted, then a word count, then pairs"; 02, Item 12: with flag 4 a list of
-- "compound sequences", which may be empty; none without it
pub record Group : Type 0 where
  pub restricted : Bool
  pub whitelisted : Bool
  pub ranges : List Range
  pub sequences : Option (List (List ℕ))

-- "records: valid count, items, confused count, items"
pub record Whole : Type 0 where
  pub valid : List ℕ
  pub confused : List ℕ

-- the sections in the order of the words: 01's twelve, the should-escape section of 02's Item 9, the quick-check set of its Item 11
pub record Table : Type 0 where
  pub valid : List Range
  pub ignored : List Range
  pub fenced : List Range
  pub marks : List Range
  pub nsm : List Range
  pub mapped : List Headed
  pub decompositions : List Headed
  pub emoji : List (List ℕ)
  pub exclusions : List ℕ
  pub classes : List ClassRange
  pub groups : List Group
  pub wholes : List Whole
  pub escape : List Range
  pub quick_check : List Range
