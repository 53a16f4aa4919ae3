-- A list that is filled entry by entry: what is known when some stand in it.
use Rattle.std.specs.Prelude.{ℕ, ◌≤◌, ◌≡◌, refl, List, [], ◌++◌, true, length, take}
use Rattle.std.proofs.Common.{arith, sym, ap, ◌∙◌, append-nil, append_assoc, length-append}
use Rattle.name.specs.Parts.{Put}

-- the words of `whole` stand in front of the list, if they fit; len is their number, and the words behind them are open
pub record Holds (whole before after : List ℕ) (len : ℕ) : Type 0 where
  pub same : length after ≡ length before
  pub long : len ≡ length whole
  pub written : len ≤ length before → take len after ≡ whole

-- those before `rest` stand there
pub record Filling (whole rest before after : List ℕ) (len : ℕ) : Type 0 where
  pub so_far : List ℕ
  pub parted : whole ≡ so_far ++ rest
  pub holds : Holds so_far before after len

module _ (whole before : List ℕ) where
  pub fill_start : Filling whole whole before before 0
  fill_start = record { so_far = []; parted = refl; holds = record { same = refl; long = refl; written = λ h. refl } }

  module _ (after : List ℕ) (len : ℕ) where
    pub fill_end : Filling whole [] before after len → Holds whole before after len
    fill_end f = rw (f.parted ∙ append-nil f.so_far) f.holds

    -- the next entry is put behind them
    pub fill_more : (items rest after' : List ℕ) (len' : ℕ) → Filling whole (items ++ rest) before after len → Put after after' len true items len'
        → Filling whole rest before after' len'
    fill_more items rest after' len' f p =
        let h : Holds f.so_far before after len = f.holds in
        record {
          so_far = f.so_far ++ items;
          parted = f.parted ∙ sym (append_assoc f.so_far items rest);
          holds =
              record {
                same = p.same ∙ h.same;
                long = rw length-append (omega (arith, p.ends, h.long));
                written = λ k. p.written (omega (arith, h.same)) ∙ ap (λ (x : List ℕ). x ++ items) (h.written (omega (arith, p.ends)));
              };
        }
