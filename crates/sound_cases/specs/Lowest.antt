-- Tables that break two rules: the lower number is answered. A layout fault is 0. A version that calls every table sound differs from the
-- check on each of these.
use Rattle.std.specs.Prelude.{ℕ, ◌≡◌, refl}
use Rattle.std.proofs.Common.{arith}
use mathlib.Core.List.{List, [], ◌∷◌, ◌++◌, map, tail-eq_of_cons-eq, head-eq_of_cons-eq}
use Rattle.std.proofs.Math.Option.{Option, none, some}
use Rattle.lists.specs.Laws.{Every}
use Rattle.lists.specs.Lists.{joined_map}
use Rattle.soundness.specs.Soundness.{soundness_of}
use Rattle.sound_cases.specs.Tables.{Filled, ◌≔◌, table_words, valid, ignored, mapped, decompositions, emoji, groups, quick_check}
use Rattle.sound_cases.specs.Cases.{broken_rules, lowest}

-- a rule, and a table that breaks it alone
pub record Breaking : Type 0 where
  pub rule : ℕ
  pub table : List Filled

abbrev breaking : ℕ → List Filled → Breaking
breaking n fs = record { rule = n; table = fs }

-- in their order; no two name the same codepoint, so that two of them put together break both rules
unfoldable pub breakings : List Breaking
breakings =
    breaking 1 (ignored ≔ (0xD800 ∷ 0xD800 ∷ []) ∷ [])
    ∷ breaking 2 (valid ≔ (0x62 ∷ 0x62 ∷ []) ∷ [])
    ∷ breaking 3 (mapped ≔ (0x41 ∷ 1 ∷ 0x63 ∷ []) ∷ [])
    ∷ breaking 4 (emoji ≔ (1 ∷ 0x2E ∷ []) ∷ [])
    ∷ breaking 5 (valid ≔ (0x61 ∷ 0x61 ∷ []) ∷ groups ≔ (0 ∷ 2 ∷ 0x61 ∷ 0x61 ∷ []) ∷ emoji ≔ (1 ∷ 0x61 ∷ []) ∷ [])
    ∷ breaking 6 (decompositions ≔ (0x7F ∷ 1 ∷ 0x64 ∷ []) ∷ [])
    ∷ breaking 7 (decompositions ≔ (0xC0 ∷ 2 ∷ 0x65 ∷ 0x300 ∷ 0xC1 ∷ 2 ∷ 0x65 ∷ 0x300 ∷ []) ∷ [])
    ∷ breaking 8 (quick_check ≔ (0x66 ∷ 0x66 ∷ []) ∷ [])
    ∷ []

-- each two of them, the lower rule first
abbrev behind : List Breaking → List (List Breaking)
behind [] = []
behind (b ∷ bs) = map (λ (k : Breaking). b ∷ k ∷ []) bs ++ behind bs

abbrev words_of : List Breaking → List ℕ
words_of bs = table_words (joined_map (λ (b : Breaking). b.table) bs)

abbrev rules_of : List Breaking → List ℕ
rules_of bs = map (λ (b : Breaking). b.rule) bs

pub two_broken : map (λ bs. broken_rules (words_of bs)) (behind breakings) ≡ map rules_of (behind breakings)
unfolding broken_rules table_words breakings
two_broken = refl

pub lower_answered : map (λ bs. soundness_of (words_of bs)) (behind breakings) ≡ map (λ bs. lowest (rules_of bs)) (behind breakings)
unfolding soundness_of table_words breakings
lower_answered = refl

-- no words are a layout fault
pub fault_answered : soundness_of [] ≡ some 0
unfolding soundness_of
fault_answered = refl

-- the table of no entries is sound
pub empty_sound : soundness_of (table_words []) ≡ none
unfolding soundness_of table_words
empty_sound = refl

-- A version that calls every table sound answers nothing where the check names a rule.
differs : (ws : List ℕ) (k : ℕ) → soundness_of ws ≡ some k → none ≡ soundness_of ws → ⊥
differs ws k e f = let z : ◌≡◌ {A = ℕ} 0 1 = cc in omega arith

pub fault_differs : none ≡ soundness_of [] → ⊥
fault_differs = differs [] 0 fault_answered

abbrev answers_to : List Breaking → List (Option ℕ)
answers_to bs = map (λ (b : Breaking). soundness_of (table_words b.table)) bs

pub one_broken : answers_to breakings ≡ map (λ (b : Breaking). some b.rule) breakings
unfolding soundness_of table_words breakings
one_broken = refl

pub all_differ : Every (λ (b : Breaking). none ≡ soundness_of (table_words b.table) → ⊥) breakings
all_differ = go breakings one_broken
  where
    go : (bs : List Breaking) → answers_to bs ≡ map (λ (b : Breaking). some b.rule) bs
        → Every (λ (b : Breaking). none ≡ soundness_of (table_words b.table) → ⊥) bs
    go [] e = tt
    go (b ∷ bs) e = (differs (table_words b.table) b.rule (head-eq_of_cons-eq e), go bs (tail-eq_of_cons-eq e))
