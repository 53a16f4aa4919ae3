-- The whole of 02, Item 6, as a case: "In a whole with A in groups 1 and 2, B in 2 and 3, C in 3, the extent of A is all three, and with 01's
-- reading C was wrongly left outside." The label A was 14 by that reading and passes; a label that is 14 by both stands beside it. The reading
-- of one hop is a wrong program now.
use Rattle.std.specs.Prelude.{ℕ, ◌≡◌, refl, Bool, true, false, not, ◌&&◌, List, [], ◌∷◌, map}
use Rattle.std.proofs.Common.{arith, sym, ◌∙◌}
use Rattle.std.proofs.Math.Option.{none}
use Rattle.limits.specs.Limits.{least_work}
use Rattle.lists.specs.Lists.{all, any, joined, keep, mem, on_some}
use Rattle.answers.specs.declared.Kind.{Kind}
use Rattle.answers.specs.declared.Kind.TheVariants.{Group}
use Rattle.table.specs.Table as table
use Rattle.table.specs.Table.{Table, Whole}
use Rattle.table.specs.Layout.{the_table}
use Rattle.table.specs.Lookup.{holds, whole_of}
use Rattle.confusable.specs.Confusable.{is_confused, members, share_group, extent, confusable}
use Rattle.name.specs.Name.{name_call, name_verdict}
use Rattle.soundness.specs.Soundness.{soundness_of}
use Rattle.cases.specs.SmallTable.{section}
use Rattle.cases.specs.Starred.{Outcome, Case, kinds_of, gives, refuses}

abbrev A : ℕ
A = 0x3041

abbrev B : ℕ
B = 0x3042

abbrev C : ℕ
C = 0x3043

-- a look-alike pair that shares no group: D in group 0, E in group 1
abbrev D : ℕ
D = 0x3044

abbrev E : ℕ
E = 0x3045

-- D; A and E; A and B; B and C
abbrev group_words : List ℕ
group_words = 0 ∷ 2 ∷ D ∷ D ∷ 0 ∷ 4 ∷ A ∷ A ∷ E ∷ E ∷ 0 ∷ 2 ∷ A ∷ B ∷ 0 ∷ 2 ∷ B ∷ C ∷ []

-- A looks like B and C, E like D
abbrev whole_words : List ℕ
whole_words = 2 ∷ B ∷ C ∷ 1 ∷ A ∷ 1 ∷ D ∷ 1 ∷ E ∷ []

-- valid is what the groups hold; of the other sections only the exclusions have a word, their count
unfoldable pub chained_table : List ℕ
chained_table =
    joined (section (A ∷ E ∷ []) ∷ section [] ∷ section [] ∷ section [] ∷ section [] ∷ section [] ∷ section [] ∷ section [] ∷ section (0 ∷ []) ∷ section [] ∷ section group_words ∷ section whole_words ∷ section [] ∷ section [] ∷ [])

-- the difference shows on a sound table
pub chained_table_sound : soundness_of chained_table ≡ none
unfolding soundness_of chained_table
chained_table_sound = refl

abbrev t : Table
t = the_table chained_table

abbrev whole : Whole
whole = record { valid = B ∷ C ∷ []; confused = A ∷ [] }

-- "the extent of A is all three"
pub extent-all : extent t whole A ≡ A ∷ B ∷ C ∷ []
unfolding extent the_table chained_table
extent-all = refl

-- 01's reading: "itself and every member, valid or confused, of that whole that shares a group with it"
unfoldable pub one_hop : Table → Whole → ℕ → List ℕ
one_hop u w c = c ∷ keep (share_group u c) (members w)

unfoldable pub one_hop_confusable : Table → List ℕ → Bool
unfolding is_confused whole_of one_hop
one_hop_confusable u s = any (is_confused u) s && any (λ g. all (respelt g) s) u.groups
  where
    respelt : table.Group → ℕ → Bool
    respelt g c = on_some (whole_of u.wholes c) (λ w. any (holds g) (keep (λ m. not (mem m (one_hop u w c))) (members w))) (holds g c)

-- "with 01's reading C was wrongly left outside"
pub one_hop_leaves : mem C (one_hop t whole A) ≡ false
unfolding one_hop the_table chained_table
one_hop_leaves = refl

-- the label A is 14 by one hop, and not by the extent; the label E is 14 by both
pub one_hop_differs : (one_hop_confusable t (A ∷ []) ≡ true) × (confusable t (A ∷ []) ≡ false)
unfolding one_hop_confusable confusable the_table chained_table
one_hop_differs = (refl, refl)

pub both_refuse : (one_hop_confusable t (E ∷ []) ≡ true) × (confusable t (E ∷ []) ≡ true)
unfolding one_hop_confusable confusable the_table chained_table
both_refuse = (refl, refl)

-- what the name call answers, as for the starred cases
unfoldable pub outcome : List ℕ → Outcome
unfolding name_call name_verdict kinds_of chained_table
outcome name = record { result = name_call 0 chained_table name 8 least_work; kinds = kinds_of (name_verdict 0 chained_table name 8 least_work) }

abbrev in_group : ℕ → Kind
in_group n = Group (record { number = n; restricted = false })

unfoldable pub cases : List Case
unfolding gives refuses
cases =
    gives (A ∷ []) (A ∷ []) (in_group 1 ∷ [])
    ∷ gives (B ∷ C ∷ []) (B ∷ C ∷ []) (in_group 3 ∷ [])
    ∷ refuses (E ∷ []) 14 0
    ∷ gives (A ∷ E ∷ []) (A ∷ E ∷ []) (in_group 1 ∷ [])
    ∷ refuses (A ∷ 0x2E ∷ E ∷ []) 14 1
    ∷ []

pub chained : map (λ c. outcome c.name) cases ≡ map (λ c. c.due) cases
unfolding outcome cases
chained = refl

-- A program that refuses A as 14, as the reading of one hop does, is not the name call.
pub not_one_hop : (p : List ℕ → List ℕ → ℕ → ℕ → ℕ) → ((words name : List ℕ) (room work : ℕ) → p words name room work ≡ (name_call 0 words name room work).values.number)
    → p chained_table (A ∷ []) 8 least_work ≡ 14 → ⊥
unfolding name_call chained_table
not_one_hop p right e =
    let z : ◌≡◌ {A = ℕ} 14 0 = sym e ∙ right chained_table (A ∷ []) 8 least_work in
    omega arith
