-- 02, Item 13: what the setting does, and what it leaves.
use Rattle.std.specs.Prelude.{ℕ, suc, ◌+◌, ◌≡◌, refl, Bool, true, false, not, ◌&&◌, cond, List, [], ◌∷◌, ◌↔◌, length, eqb}
use Rattle.std.proofs.Common.{arith, sym, ap, ◌∙◌, ne_eqb}
use Rattle.answers.specs.Verdict.{Verdict, accepted, refused, next}
use Rattle.answers.specs.Restriction.{is_restricted, barred}
use Rattle.ending.specs.Numbers.{Refuses}
use Rattle.table.specs.Table.{Table}
use Rattle.name.specs.Label.{Label, permitted, label_verdict, label_by}
use Rattle.name.specs.Name.{labels_of, labels_verdict, name_verdict}
use Rattle.name.specs.Permitted.{by_barred, by_off}
use Rattle.joining.specs.Labels.{cons_accepts, accepts_cons}
use Rattle.joining.specs.Joining.{NameAccepts, name_accepts, accepts_name}
use Rattle.meaning.specs.Numbers.{OfRules, label-refuses}

-- "Without" the setting: at 0 a label's verdict is that of 5 to 14 and 16.
pub off : (t : Table) (start done place : ℕ) (l : List ℕ) → label_by 0 t start done place l ≡ label_verdict t start done place l
off = by_off

-- "0 off, else on": any two settings other than 0 give the same.
pub on_alike : (on on' : ℕ) → (on ≡ 0 → ⊥) → (on' ≡ 0 → ⊥) → (t : Table) (start done place : ℕ) (l : List ℕ)
    → label_by on t start done place l ≡ label_by on' t start done place l
unfolding label_by
on_alike on on' h h' t start done place l = go (label_verdict t start done place l)
  where
    go : (v : Verdict Label) → next v (permitted on place) ≡ next v (permitted on' place)
    go (accepted x) = rw (ne_eqb on 0 h, ne_eqb on' 0 h')
    go (refused n p) = refl

-- 17 exactly where the setting is on, 5 to 14 and 16 do not apply and the label's group is restricted
pub record Rare (on : ℕ) (t : Table) (start done place : ℕ) (l : List ℕ) : Type 0 where
  pub label : Label
  pub passes : label_verdict t start done place l ≡ accepted label
  pub barred_so : barred on label.kind ≡ true

pub given_17 : (on : ℕ) (t : Table) (start done place : ℕ) (l : List ℕ)
    → (label_by on t start done place l ≡ refused 17 place) ↔ Rare on t start done place l
unfolding label_by
given_17 on t start done place l = (
  λ e. there (label_verdict t start done place l) refl (label-refuses t start done place l) e,
  λ r. by_barred on t start done place l
      r.label r.passes r.barred_so,
)
  where
    last : (x : Label) (b : Bool) → barred on x.kind ≡ b → label_verdict t start done place l ≡ accepted x
        → cond b (refused 17 place) (accepted x) ≡ refused 17 place → Rare on t start done place l
    last x true eb ev f = record { label = x; passes = ev; barred_so = eb }
    last x false eb ev f = absurd (let z : ◌≡◌ {A = ℕ} 0 1 = cc in omega arith)

    there : (v : Verdict Label) → label_verdict t start done place l ≡ v → Refuses (OfRules t) v
        → next v (permitted on place) ≡ refused 17 place
        → Rare on t start done place l
    there (accepted x) ev h f = last x (barred on x.kind) refl ev f
    there (refused n p) ev h f = absurd (let z : n ≡ 17 = cc in omega (arith, h.1))

-- what is accepted with the setting on is accepted with it off, as the same labels
labels_off : (on : ℕ) (t : Table) (s d p : ℕ) (ls : List (List ℕ)) (xs : List Label) → labels_verdict on t s d p ls ≡ accepted xs
    → labels_verdict 0 t s d p ls ≡ accepted xs
unfolding labels_verdict
labels_off on t s d p [] xs e = e
labels_off on t s d p (l ∷ ls) xs e =
    let c = cons_accepts on t s d p l ls xs e in
    rw c.both
    (accepts_cons 0 t s d p l ls c.first c.rest c.first_accepted refl
    (labels_off on t (s + length l + 1) (d + c.first.worked + 1) (suc p) ls c.rest c.rest_accepted))

-- What is accepted with the setting on is accepted with it off, with the same answer and kinds: both calls accept the same labels.
pub accepted_off : (on : ℕ) (words name : List ℕ) (room work : ℕ) (ls : List Label) → name_verdict on words name room work ≡ accepted ls
    → name_verdict 0 words name room work ≡ accepted ls
accepted_off on words name room work ls e =
    let a = name_accepts on words name room work ls e in
    accepts_name 0 words name room work ls
    (record {
      table = a.table;
      laid = a.laid;
      work-fits = a.work-fits;
      input_fits = a.input_fits;
      scalars = a.scalars;
      labels = labels_off on a.table 0 0 0 (labels_of name) ls a.labels;
      room_fits = a.room_fits;
    })
