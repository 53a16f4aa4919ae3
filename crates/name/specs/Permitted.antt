-- Laws of refusal 17: what a label gives behind 5 to 14 and 16, by the setting and its kind.
use Rattle.std.specs.Prelude.{ℕ, Bool, List}
use Rattle.std.proofs.Common.{arith, ◌∙◌}
use Rattle.std.proofs.Math.Path.{◌≡◌, refl}
use Rattle.std.proofs.Math.Bool.{true, false, cond}
use Rattle.answers.specs.Verdict.{Verdict, accepted, refused, next}
use Rattle.table.specs.Table.{Table}
use Rattle.answers.specs.Restriction.{barred}
use Rattle.name.specs.Label.{Label, permitted, label_verdict, label_by}

module _ (g : ℕ) (t : Table) (s d p : ℕ) (l : List ℕ) where
  pub by_accepted : (x : Label) → label_verdict t s d p l ≡ accepted x → barred g x.kind ≡ false → label_by g t s d p l ≡ accepted x
  unfolding label_by
  by_accepted x e b = rw (e, b)

  pub by_barred : (x : Label) → label_verdict t s d p l ≡ accepted x → barred g x.kind ≡ true → label_by g t s d p l ≡ refused 17 p
  unfolding label_by
  by_barred x e b = rw (e, b)

  pub by_refused : (n q : ℕ) → label_verdict t s d p l ≡ refused n q → label_by g t s d p l ≡ refused n q
  unfolding label_by
  by_refused n q e = rw e

  -- what is accepted passes 5 to 14 and 16, and is not barred
  pub accepted_by : (x : Label) → label_by g t s d p l ≡ accepted x → (label_verdict t s d p l ≡ accepted x) × (barred g x.kind ≡ false)
  unfolding label_by
  accepted_by x e = go (label_verdict t s d p l) refl e
    where
      last : (y : Label) (b : Bool) → barred g y.kind ≡ b → cond b (refused 17 p) (accepted y) ≡ accepted x
          → (accepted y ≡ accepted x) × (barred g x.kind ≡ false)
      last y true eb f = absurd (let z : ◌≡◌ {A = ℕ} 0 1 = cc in omega arith)
      last y false eb f = let same : y ≡ x = cc in (f, rw (← same) eb)

      go : (v : Verdict Label) → label_verdict t s d p l ≡ v → next v (permitted g p) ≡ accepted x
          → (label_verdict t s d p l ≡ accepted x) × (barred g x.kind ≡ false)
      go (accepted y) ev f = let r = last y (barred g y.kind) refl f in (ev ∙ r.0, r.1)
      go (refused n q) ev f = absurd (let z : ◌≡◌ {A = ℕ} 0 1 = cc in omega arith)

-- with the setting 0 nothing is put behind 5 to 14 and 16
pub by_off : (t : Table) (s d p : ℕ) (l : List ℕ) → label_by 0 t s d p l ≡ label_verdict t s d p l
unfolding label_by
by_off t s d p l = go (label_verdict t s d p l)
  where
    go : (v : Verdict Label) → next v (permitted 0 p) ≡ v
    go (accepted x) = refl
    go (refused n q) = refl
