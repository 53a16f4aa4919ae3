-- What `all` and `any` over the records of a part answer, in the words of `lists`.
use denote.Param.Members.{Mut, Called}
use denote.Ref.{Bor}
use Prim.Native.Nat.{ℕ}
use mathlib.Core.Path.{◌≡◌, refl, ◌∙◌}
use mathlib.Core.Bool.{Bool, true, false}
use mathlib.Core.List.{List}
use Rattle.std.specs.Prelude.{Option}
use Rattle.std.specs.Iterator.{YieldsFirstBy, YieldsThen}
use Rattle.std.specs.List.{FoldsTo}
use Rattle.std.specs.Option.{MatchOption}
use Rattle.std.proofs.lemmas.Iterator.Consumers.{YieldsList-from_first}
use Rattle.std.proofs.lemmas.Iterator.Search.{all_from_yields_List, any_from_yields_List}
use Rattle.lists.specs.Lists.{all, any}
use Rattle.lists.specs.Searches.{all_is, any_is}
use Rattle.table.specs.Table.{Headed, Whole}
use Rattle.records.specs.declared.Heads.{Heads}
use Rattle.records.specs.declared.Lists.{Lists}
use Rattle.records.specs.declared.Wholes.{Wholes}
use Rattle.records.specs.Left.{head_of, items_of, whole_of, heads_left, lists_left, wholes_left}

-- what the clause `ran` of `all` and that of `any` say
abbrev pub AllRan : {S A F : Type 0} (steps : S → Option A → S → Type 0) (g : Mut F (A × Unit {0}) Bool) (s u : S) (f : F) (r : Bool) → Type 0
AllRan {S} {A} {F} steps g s u f r =
    (xs : List A) × (o : Option A) × (j : F) × YieldsThen steps s xs o u × FoldsTo (λ p x q. Called g p (x, tt) true q) f xs j
    × MatchOption o (r ≡ true) (λ x. (r ≡ false) × ((h : F) × Called g j (x, tt) false h))

abbrev pub AnyRan : {S A F : Type 0} (steps : S → Option A → S → Type 0) (g : Mut F (A × Unit {0}) Bool) (s u : S) (f : F) (r : Bool) → Type 0
AnyRan {S} {A} {F} steps g s u f r =
    (xs : List A) × (o : Option A) × (j : F) × YieldsThen steps s xs o u × FoldsTo (λ p x q. Called g p (x, tt) false q) f xs j
    × MatchOption o (r ≡ false) (λ x. (r ≡ true) × ((h : F) × Called g j (x, tt) true h))

-- the closure answers what p says of each item, and stays as it is
abbrev pub Tells : {A B F : Type 0} (v : A → B) (g : Mut F (A × Unit {0}) Bool) (f : F) (p : B → Bool) → Type 0
Tells {A} {B} {F} v g f p = (x : A) (b : Bool) (q : F) → Called g f (x, tt) b q → (q ≡ f) × (b ≡ p (v x))

-- an iterator whose state shows what is left
module _ {S A B F : Type 0} (v : A → B) (rest : S → List B) {g : Mut F (A × Unit {0}) Bool} {r : Bool} (p : B → Bool) (s : S) (xs : List B) (u : S) (f : F) where
  pub all_left : rest s ≡ xs → AllRan (YieldsFirstBy v rest) g s u f r → Tells v g f p → r ≡ all p xs
  all_left e ran tells = all_from_yields_List p u f r ran (YieldsList-from_first v rest xs e) tells ∙ all_is p xs

  pub any_left : rest s ≡ xs → AnyRan (YieldsFirstBy v rest) g s u f r → Tells v g f p → r ≡ any p xs
  any_left e ran tells = any_from_yields_List p u f r ran (YieldsList-from_first v rest xs e) tells ∙ any_is p xs

module _ {F : Type 0} {g : Mut F ((ℕ × Bor (List ℕ)) × Unit {0}) Bool} {r : Bool} (p : Headed → Bool) (s : Heads) (xs : List Headed) (u : Heads) (f : F)
    (e : heads_left s.part.now ≡ xs) where
  pub all_heads : AllRan (YieldsFirstBy head_of (λ s. heads_left s.part.now)) g s u f r → Tells head_of g f p → r ≡ all p xs
  all_heads ran tells = all_left head_of (λ s. heads_left s.part.now) p s xs u f e ran tells

  pub any_head : AnyRan (YieldsFirstBy head_of (λ s. heads_left s.part.now)) g s u f r → Tells head_of g f p → r ≡ any p xs
  any_head ran tells = any_left head_of (λ s. heads_left s.part.now) p s xs u f e ran tells

module _ {F : Type 0} {g : Mut F (Bor (List ℕ) × Unit {0}) Bool} {r : Bool} (p : List ℕ → Bool) (s : Lists) (xs : List (List ℕ)) (u : Lists) (f : F)
    (e : lists_left s.part.now ≡ xs) where
  pub all_lists : AllRan (YieldsFirstBy items_of (λ s. lists_left s.part.now)) g s u f r → Tells items_of g f p → r ≡ all p xs
  all_lists ran tells = all_left items_of (λ s. lists_left s.part.now) p s xs u f e ran tells

  pub any_list : AnyRan (YieldsFirstBy items_of (λ s. lists_left s.part.now)) g s u f r → Tells items_of g f p → r ≡ any p xs
  any_list ran tells = any_left items_of (λ s. lists_left s.part.now) p s xs u f e ran tells

module _ {F : Type 0} {g : Mut F ((Bor (List ℕ) × Bor (List ℕ)) × Unit {0}) Bool} {r : Bool} (p : Whole → Bool) (s : Wholes) (xs : List Whole) (u : Wholes) (f : F)
    (e : wholes_left s.part.now ≡ xs) where
  pub all_wholes : AllRan (YieldsFirstBy whole_of (λ s. wholes_left s.part.now)) g s u f r → Tells whole_of g f p → r ≡ all p xs
  all_wholes ran tells = all_left whole_of (λ s. wholes_left s.part.now) p s xs u f e ran tells

  pub any_whole : AnyRan (YieldsFirstBy whole_of (λ s. wholes_left s.part.now)) g s u f r → Tells whole_of g f p → r ≡ any p xs
  any_whole ran tells = any_left whole_of (λ s. wholes_left s.part.now) p s xs u f e ran tells
