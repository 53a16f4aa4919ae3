-- 02, Item 12, on the small table: what a list permits, what it does not, and which words are a layout fault.
use Rattle.std.specs.Prelude.{ℕ, ◌≡◌, refl, Bool, true, false, List, [], ◌∷◌, ◌++◌, map, replicate}
use Rattle.std.proofs.Math.Option.{none, some}
use Rattle.limits.specs.Limits.{least_work}
use Rattle.lists.specs.Lists.{any, is_some, joined}
use Rattle.answers.specs.declared.Kind.{Kind}
use Rattle.answers.specs.declared.Kind.TheVariants.{Ascii, Group}
use Rattle.table.specs.Table as table
use Rattle.table.specs.Layout.{parse, the_table}
use Rattle.tokens.specs.Tokens.{emoji, text, joined_text}
use Rattle.compounds.specs.Compounds.{compounds}
use Rattle.name.specs.Label.{label_call}
use Rattle.name.specs.Name.{name_verdict, name_call}
use Rattle.soundness.specs.Soundness.{soundness_of}
use Rattle.cases.specs.SmallTable.{latin_with, table_with, small_table}
use Rattle.cases.specs.Starred.{Outcome, Case, kinds_of, gives, refuses}

-- Latin lists 78 300 and 78 303 300; a later group, whitelisted and without a list, holds 78 and the marks too
abbrev list : List ℕ
list = 2 ∷ 2 ∷ 0x78 ∷ 0x300 ∷ 3 ∷ 0x78 ∷ 0x303 ∷ 0x300 ∷ []

unfoldable pub listed_table : List ℕ
unfolding table_with
listed_table = table_with (latin_with 6 list ++ (2 ∷ 6 ∷ 0x78 ∷ 0x78 ∷ 0x300 ∷ 0x300 ∷ 0x303 ∷ 0x303 ∷ []))

-- a list of none; and no list, though the group is whitelisted
unfoldable pub none_table : List ℕ
unfolding table_with
none_table = table_with (latin_with 6 (0 ∷ []))

unfoldable pub white_table : List ℕ
unfolding table_with
white_table = table_with (latin_with 2 [])

unfoldable pub outcome : List ℕ → List ℕ → Outcome
unfolding name_call name_verdict kinds_of
outcome words name = record { result = name_call 0 words name 8 least_work; kinds = kinds_of (name_verdict 0 words name 8 least_work) }

abbrev latin : Kind
latin = Group (record { number = 0; restricted = false })

-- "must, together with all marks up to the next character that isn't one, be in the list, else the new refusal 16"
unfoldable pub listed_cases : List Case
unfolding gives refuses
listed_cases =
    gives (0x78 ∷ 0x300 ∷ []) (0x78 ∷ 0x300 ∷ []) (latin ∷ [])
    ∷ gives (0x78 ∷ 0x303 ∷ 0x300 ∷ []) (0x78 ∷ 0x303 ∷ 0x300 ∷ []) (latin ∷ [])
    ∷ refuses (0x78 ∷ 0x303 ∷ []) 16 0
    ∷ refuses (0x78 ∷ 0x300 ∷ 0x300 ∷ []) 16 0
    ∷ refuses (0x78 ∷ 0x300 ∷ 0x79 ∷ 0x300 ∷ []) 16 0
    ∷ refuses (0x61 ∷ 0x2E ∷ 0x78 ∷ 0x303 ∷ []) 16 1
    ∷ gives (0x61 ∷ 0x300 ∷ []) (0xE0 ∷ []) (latin ∷ [])
    ∷ refuses (0x61 ∷ 0x300 ∷ 0x300 ∷ []) 16 0
    ∷ gives (0x78 ∷ 0x300 ∷ 0x1F4A9 ∷ 0x78 ∷ 0x300 ∷ []) (0x78 ∷ 0x300 ∷ 0x1F4A9 ∷ 0x78 ∷ 0x300 ∷ []) (latin ∷ [])
    ∷ refuses (0x78 ∷ 0x1F4A9 ∷ 0x300 ∷ []) 11 0
    ∷ refuses (0x78 ∷ 0x303 ∷ 0x3BE ∷ []) 12 0
    ∷ gives (0x78 ∷ []) (0x78 ∷ []) (Ascii ∷ [])
    ∷ []

pub listed : map (λ c. outcome listed_table c.name) listed_cases ≡ map (λ c. c.due) listed_cases
unfolding outcome listed_table listed_cases
listed = refl

-- "a list of none permits no run of marks"
unfoldable pub none_cases : List Case
unfolding gives refuses
none_cases = refuses (0x78 ∷ 0x300 ∷ []) 16 0 ∷ gives (0x61 ∷ 0x300 ∷ []) (0xE0 ∷ []) (latin ∷ []) ∷ []

pub list_of-none : map (λ c. outcome none_table c.name) none_cases ≡ map (λ c. c.due) none_cases
unfolding outcome none_table none_cases
list_of-none = refl

-- "Without the flag 16 is not given"
unfoldable pub white_cases : List Case
unfolding gives refuses
white_cases = gives (0x78 ∷ 0x300 ∷ 0x300 ∷ []) (0x78 ∷ 0x300 ∷ 0x300 ∷ []) (latin ∷ []) ∷ []

pub no_list : map (λ c. outcome white_table c.name) white_cases ≡ map (λ c. c.due) white_cases
unfolding outcome white_table white_cases
no_list = refl

-- no group of the small table has a list, and one of the other has
pub any-list : map (λ (ws : List ℕ). any (λ (g : table.Group). is_some g.sequences) (the_table ws).groups) (small_table ∷ listed_table ∷ []) ≡ false ∷ true ∷ []
unfolding the_table small_table listed_table
any-list = refl

-- the sequences of the joined text are those of the tokens
pub of_tokens : compounds (the_table small_table) (joined_text (text (0x78 ∷ 0x300 ∷ []) ∷ emoji (0x1F4A9 ∷ []) ∷ text (0x61 ∷ 0x79 ∷ 0x303 ∷ 0x300 ∷ []) ∷ []))
    ≡ (0x78 ∷ 0x300 ∷ []) ∷ (0x79 ∷ 0x303 ∷ 0x300 ∷ []) ∷ []
unfolding compounds the_table small_table joined_text
of_tokens = refl

-- Which words are a table: flags 0 to 3, 6 and 7; "a count of 0 to 64, then records (count 2 to 8, items)".
abbrev run : ℕ → List ℕ
run n = n ∷ replicate n 0x300

abbrev many : ℕ → List ℕ
many n = n ∷ joined (replicate n (run 2))

unfoldable pub well_formed : ℕ → List ℕ → Bool
unfolding parse table_with
well_formed flags words = is_some (parse (table_with (latin_with flags words)))

pub flags : map (λ f. well_formed f []) (0 ∷ 1 ∷ 2 ∷ 3 ∷ 4 ∷ 5 ∷ 8 ∷ []) ≡ true ∷ true ∷ true ∷ true ∷ false ∷ false ∷ false ∷ []
unfolding well_formed
flags = refl

pub with_list : map (λ f. well_formed f list) (4 ∷ 5 ∷ 6 ∷ 7 ∷ 14 ∷ []) ≡ false ∷ false ∷ true ∷ true ∷ false ∷ []
unfolding well_formed
with_list = refl

pub lists : map (well_formed 6) (many 64 ∷ many 65 ∷ (1 ∷ run 1) ∷ (1 ∷ run 8) ∷ (1 ∷ run 9) ∷ (1 ∷ []) ∷ (60 ∷ run 2) ∷ [] ∷ [])
    ≡ true ∷ false ∷ false ∷ true ∷ false ∷ false ∷ false ∷ false ∷ []
unfolding well_formed
lists = refl

-- a list that runs past the section
pub past-section : map (λ (ws : List ℕ). is_some (parse (table_with (latin_with 0 [] ++ ws)))) ((6 ∷ 2 ∷ 0x78 ∷ 0x78 ∷ 1 ∷ 2 ∷ 0x78 ∷ 0x300 ∷ []) ∷ (6 ∷ 2 ∷ 0x78 ∷ 0x78 ∷ 1 ∷ 2 ∷ 0x78 ∷ []) ∷ [])
    ≡ true ∷ false ∷ []
unfolding parse table_with
past-section = refl

-- The table with a list is sound; rule 1 asks the items of the list.
pub sound : map soundness_of (listed_table ∷ table_with (latin_with 6 (1 ∷ 2 ∷ 0x78 ∷ 0xD800 ∷ [])) ∷ []) ≡ none ∷ some 1 ∷ []
unfolding soundness_of listed_table table_with
sound = refl

-- "a run of over 7 marks is never listed": here the longest list record, 78 and seven marks. One mark more or fewer is 16.
unfoldable pub long_table : List ℕ
unfolding table_with
long_table = table_with (latin_with 6 (1 ∷ 8 ∷ 0x78 ∷ replicate 7 0x300))

unfoldable pub long_cases : List Case
unfolding gives refuses
long_cases =
    gives (0x78 ∷ replicate 7 0x300) (0x78 ∷ replicate 7 0x300) (latin ∷ []) ∷ refuses (0x78 ∷ replicate 8 0x300) 16 0 ∷ refuses (0x78 ∷ replicate 6 0x300) 16 0 ∷ []

pub long_runs : map (λ c. outcome long_table c.name) long_cases ≡ map (λ c. c.due) long_cases
unfolding outcome long_table long_cases
long_runs = refl

-- Flags 7: the group with the list is restricted. With Item 13's setting on, what is listed is 17, and 16 comes before it.
unfoldable pub restricted_table : List ℕ
unfolding table_with
restricted_table = table_with (latin_with 7 list)

unfoldable pub restricted_cases : List Case
unfolding gives refuses
restricted_cases =
    gives (0x78 ∷ 0x300 ∷ []) (0x78 ∷ 0x300 ∷ []) (Group (record { number = 0; restricted = true }) ∷ []) ∷ refuses (0x78 ∷ 0x303 ∷ []) 16 0 ∷ []

pub restricted : map (λ c. outcome restricted_table c.name) restricted_cases ≡ map (λ c. c.due) restricted_cases
unfolding outcome restricted_table restricted_cases
restricted = refl

pub before_17 : map (λ (name : List ℕ). (name_call 1 restricted_table name 8 least_work).values.number) ((0x78 ∷ 0x300 ∷ []) ∷ (0x78 ∷ 0x303 ∷ []) ∷ []) ≡ 17 ∷ 16 ∷ []
unfolding name_call restricted_table
before_17 = refl

-- 16 comes before 14: 445 looks like Latin 78. In a group that lists 445 303, that text is 14 and 445 300 is 16; without the list both are 14.
abbrev lookalikes : ℕ → List ℕ → List ℕ
lookalikes flags words = table_with (latin_with 0 [] ++ (flags ∷ 6 ∷ 0x300 ∷ 0x300 ∷ 0x303 ∷ 0x303 ∷ 0x445 ∷ 0x445 ∷ words))

abbrev numbers : List ℕ → List ℕ
numbers words = map (λ (name : List ℕ). (name_call 0 words name 8 least_work).values.number) ((0x445 ∷ 0x303 ∷ []) ∷ (0x445 ∷ 0x300 ∷ []) ∷ [])

pub before_14 : map numbers (lookalikes 6 (1 ∷ 2 ∷ 0x445 ∷ 0x303 ∷ []) ∷ lookalikes 2 [] ∷ []) ≡ (14 ∷ 16 ∷ []) ∷ (14 ∷ 14 ∷ []) ∷ []
unfolding name_call table_with
before_14 = refl

-- the label call: 16 at place 0, and zeros
pub label_place : label_call 0 listed_table (0x78 ∷ 0x303 ∷ []) 8 least_work
    ≡ record { values = record { number = 16; place = 0; length = 0; kind = none }; answer = replicate 8 0; work = replicate least_work 0 }
unfolding label_call listed_table
label_place = refl

-- A list's items are not the group's characters: where no group's pairs hold 303 (it is valid by the decomposition of 1EBD), the list of 78 303 leaves
-- the table sound, and that label is 12.
unfoldable pub outside_table : List ℕ
unfolding table_with
outside_table =
    table_with (
    (6 ∷ 20 ∷ 0x24 ∷ 0x24 ∷ 0x2D ∷ 0x2D ∷ 0x30 ∷ 0x39 ∷ 0x5F ∷ 0x5F ∷ 0x61 ∷ 0x7A ∷ 0xE0 ∷ 0xE0 ∷ 0xE6 ∷ 0xE6 ∷ 0x300 ∷ 0x300 ∷ 0x1EBD ∷ 0x1EBD ∷ 0x2019 ∷ 0x2019 ∷ 1 ∷ 2 ∷ 0x78 ∷ 0x303 ∷ [])
    ++ (0 ∷ 8 ∷ 0x2D ∷ 0x2D ∷ 0x30 ∷ 0x39 ∷ 0x3BE ∷ 0x3BE ∷ 0x3C4 ∷ 0x3C4 ∷ 0 ∷ 8 ∷ 0x30 ∷ 0x39 ∷ 0x442 ∷ 0x442 ∷ 0x445 ∷ 0x445 ∷ 0x4D5 ∷ 0x4D5 ∷ [])
    )

pub outside_sound : soundness_of outside_table ≡ none
unfolding soundness_of outside_table
outside_sound = refl

pub outside_12 : (name_call 0 outside_table (0x78 ∷ 0x303 ∷ []) 8 least_work).values.number ≡ 12
unfolding name_call outside_table
outside_12 = refl
