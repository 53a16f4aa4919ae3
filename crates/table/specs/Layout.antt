-- From words to a table, or nothing where the words have a layout fault. 01, "The table", second paragraph; 02, Items 9, 11 and 12.
use Rattle.std.specs.Prelude.{ℕ, zero, suc, ◌/◌, ◌%◌, Bool, true, false, not, ◌&&◌, ◌||◌, List, [], ◌∷◌, length, get_or, take, drop, leb, eqb}
use Rattle.std.proofs.Math.Option
use Rattle.std.proofs.Math.Option.{Option, none, some, map}
use Rattle.lists.specs.Lists.{and_then}
use Rattle.table.specs.Table.{Range, ClassRange, Headed, Group, Whole, Table}

-- "Items per record: mapped and emoji 1 to 32, decomposition 1 to 4; at most 256 groups"
abbrev pub most_items : ℕ
most_items = 32

abbrev pub most_parts : ℕ
most_parts = 4

abbrev pub most_groups : ℕ
most_groups = 256

-- 02, Item 11: "layout asks fourteen and allows 131,074 words"
abbrev pub section_count : ℕ
section_count = 14

abbrev pub most_words : ℕ
most_words = 131074

-- "a class at most 255"
abbrev pub most_class : ℕ
most_class = 255

-- 01's flags 1 and 2, and 02's flag 4
abbrev pub most_flags : ℕ
most_flags = 7

-- 02, Item 12: "a count of 0 to 64, then records (count 2 to 8, items)"
abbrev pub most_sequences : ℕ
most_sequences = 64

abbrev pub least_run : ℕ
least_run = 2

abbrev pub most_run : ℕ
most_run = 8

module _ {A : Type 0} where
  -- x where the test passes
  abbrev pub only_if : Bool → Option A → Option A
  only_if true o = o
  only_if false o = none

  -- x in front of the rest, where there is one
  abbrev pub in_front : A → Option (List A) → Option (List A)
  in_front x none = none
  in_front x (some xs) = some (x ∷ xs)

-- so many "sections, in this order, each led by the number of words in it"; "words left over" are a fault
unfoldable pub sections : ℕ → List ℕ → Option (List (List ℕ))
sections zero [] = some []
sections zero (w ∷ ws) = none
sections (suc k) [] = none
sections (suc k) (n ∷ ws) = let rest = sections k (drop n ws) in only_if (leb n (length ws)) (in_front (take n ws) rest)

-- pairs: "a pair's first is at most its last"
unfoldable pub ranges : List ℕ → Option (List Range)
ranges [] = some []
ranges (a ∷ []) = none
ranges (a ∷ b ∷ ws) = let rest = ranges ws in only_if (leb a b) (in_front (record { first = a; last = b }) rest)

-- triples
unfoldable pub class_ranges : List ℕ → Option (List ClassRange)
class_ranges [] = some []
class_ranges (a ∷ []) = none
class_ranges (a ∷ b ∷ []) = none
class_ranges (a ∷ b ∷ k ∷ ws) =
    let rest = class_ranges ws in
    only_if (leb a b && leb k most_class) (in_front (record { first = a; last = b; class = k }) rest)

-- a record's count of items is from 1 to `most`, and that many words follow
abbrev pub count_fits : ℕ → ℕ → List ℕ → Bool
count_fits most n ws = leb 1 n && leb n most && leb n (length ws)

-- records head, count, items. The first argument of `headed`, `sequences`, `groups` and `wholes` bounds the number of records: the
-- number of words is enough, since a record takes at least one.
unfoldable pub headed : ℕ → ℕ → List ℕ → Option (List Headed)
headed zero most [] = some []
headed zero most (w ∷ ws) = none
headed (suc fuel) most [] = some []
headed (suc fuel) most (h ∷ []) = none
headed (suc fuel) most (h ∷ n ∷ ws) =
    let rest = headed fuel most (drop n ws) in
    only_if (count_fits most n ws) (in_front (record { head = h; items = take n ws }) rest)

-- records count, items
unfoldable pub sequences : ℕ → List ℕ → Option (List (List ℕ))
sequences zero [] = some []
sequences zero (w ∷ ws) = none
sequences (suc fuel) [] = some []
sequences (suc fuel) (n ∷ ws) =
    let rest = sequences fuel (drop n ws) in
    only_if (count_fits most_items n ws) (in_front (take n ws) rest)

-- "exactly one record in exclusions"; its count may be 0
unfoldable pub excluded : List ℕ → Option (List ℕ)
excluded [] = none
excluded (n ∷ ws) = only_if (eqb n (length ws)) (some ws)

-- "flags, where 1 is restricted and 2 is CM whitelisted", and 4 says that there is a list
abbrev pub is_restricted : ℕ → Bool
is_restricted flags = eqb (flags % 2) 1

abbrev pub is_whitelisted : ℕ → Bool
is_whitelisted flags = eqb (flags / 2 % 2) 1

abbrev pub has_list : ℕ → Bool
has_list flags = eqb (flags / 4 % 2) 1

-- no other flag, and "flag 4, allowed only beside flag 2"
abbrev pub flags_fit : ℕ → Bool
flags_fit flags = leb flags most_flags && (is_whitelisted flags || not (has_list flags))

abbrev pub group : ℕ → List Range → Option (List (List ℕ)) → Group
group flags rs list = record { restricted = is_restricted flags; whitelisted = is_whitelisted flags; ranges = rs; sequences = list }

-- so many sequences, then the rest of the words
pub record Sequences : Type 0 where
  pub list : List (List ℕ)
  pub rest : List ℕ

abbrev pub behind_one : List ℕ → Sequences → Sequences
behind_one s q = record { list = s ∷ q.list; rest = q.rest }

-- so many "records (count 2 to 8, items)"
unfoldable pub runs : ℕ → List ℕ → Option Sequences
runs zero ws = some (record { list = []; rest = ws })
runs (suc k) [] = none
runs (suc k) (n ∷ ws) =
    let rest = runs k (drop n ws) in
    only_if (leb least_run n && leb n most_run && leb n (length ws)) (map (behind_one (take n ws)) rest)

-- "a count of 0 to 64, then records"
unfoldable pub list_part : List ℕ → Option Sequences
unfolding runs
list_part [] = none
list_part (n ∷ ws) = only_if (leb n most_sequences) (runs n ws)

-- what follows the pairs of a group, "outside its word count": its list, or none, then the rest of the words
pub record GroupEnd : Type 0 where
  pub sequences : Option (List (List ℕ))
  pub rest : List ℕ

abbrev pub with_list : Sequences → GroupEnd
with_list q = record { sequences = some q.list; rest = q.rest }

unfoldable pub group_end : Bool → List ℕ → Option GroupEnd
unfolding list_part
group_end false ws = some (record { sequences = none; rest = ws })
group_end true ws = map with_list (list_part ws)

-- records flags, word count, pairs, and with flag 4 a list
unfoldable pub groups : ℕ → List ℕ → Option (List Group)
unfolding ranges group_end
groups zero [] = some []
groups zero (w ∷ ws) = none
groups (suc fuel) [] = some []
groups (suc fuel) (f ∷ []) = none
groups (suc fuel) (f ∷ n ∷ ws) =
    only_if (flags_fit f && leb n (length ws)) (and_then (ranges (take n ws)) (λ rs. and_then (group_end (has_list f) (drop n ws)) (λ e. in_front (group f rs e.sequences) (groups fuel e.rest))))

-- what follows the valid items of a whole: "confused count, items", then the rest of the words
pub record Tail : Type 0 where
  pub confused : List ℕ
  pub rest : List ℕ

unfoldable pub confused_part : List ℕ → Option Tail
confused_part [] = none
confused_part (n ∷ ws) = only_if (leb n (length ws)) (some (record { confused = take n ws; rest = drop n ws }))

-- records valid count, items, confused count, items
unfoldable pub wholes : ℕ → List ℕ → Option (List Whole)
unfolding confused_part
wholes zero [] = some []
wholes zero (w ∷ ws) = none
wholes (suc fuel) [] = some []
wholes (suc fuel) (n ∷ ws) =
    only_if (leb n (length ws)) (and_then (confused_part (drop n ws)) (λ c. in_front (record { valid = take n ws; confused = c.confused }) (wholes fuel c.rest)))

abbrev ◌>>=◌ : {A B : Type 0} → Option A → (A → Option B) → Option B
◌>>=◌ o f = and_then o f

-- The table of the sections, in their order. `part k` is section k, counted from 0; `sections section_count` gives all of them.
unfoldable pub table_of : List (List ℕ) → Option Table
unfolding ranges class_ranges headed sequences excluded groups wholes
table_of ss =
    let part : ℕ → List ℕ = λ k. get_or ss k [] in
    do
      valid ← ranges (part 0)
      ignored ← ranges (part 1)
      fenced ← ranges (part 2)
      marks ← ranges (part 3)
      nsm ← ranges (part 4)
      mapped ← headed (length (part 5)) most_items (part 5)
      decompositions ← headed (length (part 6)) most_parts (part 6)
      emoji ← sequences (length (part 7)) (part 7)
      exclusions ← excluded (part 8)
      classes ← class_ranges (part 9)
      groups ← groups (length (part 10)) (part 10)
      wholes ← wholes (length (part 11)) (part 11)
      escape ← ranges (part 12)
      quick_check ← ranges (part 13)
      only_if (leb (length groups) most_groups) (some (record { valid = valid; ignored = ignored; fenced = fenced; marks = marks; nsm = nsm; mapped = mapped; decompositions = decompositions; emoji = emoji; exclusions = exclusions; classes = classes; groups = groups; wholes = wholes; escape = escape; quick_check = quick_check }))

-- The table that the words hold, or nothing on a layout fault: "Anything else, words left over included, is a layout fault."
unfoldable pub parse : List ℕ → Option Table
unfolding sections table_of
parse ws = only_if (leb (length ws) most_words) (and_then (sections section_count ws) table_of)

-- the table of no entries, which stands for words with a layout fault
unfoldable pub empty_table : Table
empty_table =
    record {
      valid = [];
      ignored = [];
      fenced = [];
      marks = [];
      nsm = [];
      mapped = [];
      decompositions = [];
      emoji = [];
      exclusions = [];
      classes = [];
      groups = [];
      wholes = [];
      escape = [];
      quick_check = [];
    }

-- the table that the words hold
unfoldable pub the_table : List ℕ → Table
unfolding parse empty_table
the_table ws = Option.get_or (parse ws) empty_table
