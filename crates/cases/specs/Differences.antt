-- Wrong programs that 01 names ("Proof held to the counter's standard"), each ruled out on named inputs: the definition of the name call, and
-- that of the label call, differ from it there. A program is seen as what it gives back for the words of a table, a name, and what stands in
-- the answer buffer and in the work area.
use Rattle.std.specs.Prelude.{ℕ, ◌≡◌, refl, List, [], ◌∷◌, get_or, replicate}
use Rattle.std.proofs.Common.{arith, sym, ap, ◌∙◌}
use Rattle.limits.specs.Limits.{least_work}
use Rattle.name.specs.Label.{label_call}
use Rattle.name.specs.Name.{name_call}
use Rattle.cases.specs.SmallTable.{small_table}

-- a work area that is large enough
abbrev work : List ℕ
work = replicate least_work 0

-- an answer buffer of one word, which is not zero
abbrev buffer : List ℕ
buffer = 7 ∷ []

-- a call, with the number of its refusal and the words that it leaves in the answer buffer
module _ {R : Type 0} (call : List ℕ → List ℕ → ℕ → ℕ → R) (number_of : R → ℕ) (answer_of : R → List ℕ) where
  -- what the four arguments need to know of a call
  pub record Facts : Type 0 where
    pub accepts_61 : number_of (call small_table (0x61 ∷ []) 1 least_work) ≡ 0
    pub gives_61 : answer_of (call small_table (0x61 ∷ []) 1 least_work) ≡ 0x61 ∷ []
    pub gives_62 : answer_of (call small_table (0x62 ∷ []) 1 least_work) ≡ 0x62 ∷ []
    pub maps_41 : answer_of (call small_table (0x41 ∷ []) 1 least_work) ≡ 0x61 ∷ []

  module _ (p : List ℕ → List ℕ → List ℕ → List ℕ → R) (f : Facts) where
    -- the program does what the definition says, on a name with these buffers
    abbrev pub Right : List ℕ → Type 0
    Right name = p small_table name buffer work ≡ call small_table name 1 least_work

    -- "A version that refuses everything": wrong on 61
    pub not_refusing : (number_of (p small_table (0x61 ∷ []) buffer work) ≡ 0 → ⊥) → Right (0x61 ∷ []) → ⊥
    not_refusing never r = never (ap number_of r ∙ f.accepts_61)

    -- "or repeats one name": wrong on 61 or on 62
    pub not_repeating : p small_table (0x61 ∷ []) buffer work ≡ p small_table (0x62 ∷ []) buffer work → Right (0x61 ∷ []) → Right (0x62 ∷ []) → ⊥
    not_repeating same r s =
        let z : ◌≡◌ {A = ℕ} 0x61 0x62 = ap (λ (l : List ℕ). get_or l 0 0) (sym f.gives_61 ∙ sym (ap answer_of r) ∙ ap answer_of same ∙ ap answer_of s ∙ f.gives_62) in
        omega arith

    -- "One that copies its input .. breaks demand 2 on 41."
    pub not_copying : answer_of (p small_table (0x41 ∷ []) buffer work) ≡ 0x41 ∷ [] → Right (0x41 ∷ []) → ⊥
    not_copying copied r =
        let z : ◌≡◌ {A = ℕ} 0x41 0x61 = ap (λ (l : List ℕ). get_or l 0 0) (sym copied ∙ ap answer_of r ∙ f.maps_41) in
        omega arith

    -- "One that does nothing breaks demand 1 on a buffer that wasn't zero."
    pub not_idle : answer_of (p small_table (0x61 ∷ []) buffer work) ≡ buffer → Right (0x61 ∷ []) → ⊥
    not_idle kept r =
        let z : ◌≡◌ {A = ℕ} 7 0x61 = ap (λ (l : List ℕ). get_or l 0 0) (sym kept ∙ ap answer_of r ∙ f.gives_61) in
        omega arith

-- The facts hold of both calls, so none of these programs is right for either.
pub name_facts : Facts (name_call 0) (λ r. r.values.number) (λ r. r.answer)
unfolding name_call small_table
name_facts = record { accepts_61 = refl; gives_61 = refl; gives_62 = refl; maps_41 = refl }

pub label_facts : Facts (label_call 0) (λ r. r.values.number) (λ r. r.answer)
unfolding label_call small_table
label_facts = record { accepts_61 = refl; gives_61 = refl; gives_62 = refl; maps_41 = refl }
