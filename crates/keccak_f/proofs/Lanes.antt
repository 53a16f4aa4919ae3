-- The lanes of each step by their places in the state: what the code writes at place i is the lane that the definition has there.
use Prim.Native.Nat.{ℕ, ◌+◌, ◌*◌, ◌/◌, ◌%◌, ◌<◌, ◌≤◌}
use native.Mathlib.Omega.{arith}
use mathlib.Core.Path.{◌≡◌, sym, ap, ap₂, ◌∙◌}
use mathlib.Core.List.{List, ◌++◌, append_assoc}
use lib.ListN.{length, get_or, take, drop}
use lib.Seq.{sets, sets-eq, drop-drop}
use borrow.Rule.Slice.PartMut.{put_mid}
use Rattle.keccak_f.specs.Tabulate.{Filling, fill_part, tabulate, tabulate-same, get_d_tabulate}
use Rattle.keccak_f.specs.Permutation.{◌⊕◌, lane, parity, rotate, offsets, chi_lane}
use Rattle.keccak_f.specs.Rows.{row_at, theta_row, chi_row}

abbrev pub theta_at : List ℕ → List ℕ → ℕ → ℕ
theta_at a d i = lane a (i % 5) (i / 5) ⊕ get_or d (i % 5) 0

abbrev pub rho_at : List ℕ → ℕ → ℕ
rho_at a i = rotate (lane a (i % 5) (i / 5)) (lane offsets (i % 5) (i / 5))

abbrev pub pi_at : List ℕ → ℕ → ℕ
pi_at a i = lane a (i % 5 + 3 * (i / 5)) (i % 5)

abbrev pub chi_at : List ℕ → ℕ → ℕ
chi_at b i = chi_lane (lane b (i % 5) (i / 5)) (lane b (i % 5 + 1) (i / 5)) (lane b (i % 5 + 2) (i / 5))

-- lane (i % 5, i / 5) stands at i
pub at_place : (a : List ℕ) (i : ℕ) → i < 25 → lane a (i % 5) (i / 5) ≡ get_or a i 0
at_place a i h = ap (λ (j : ℕ). get_or a j 0) (omega arith)

pub rho-at : (a : List ℕ) (i : ℕ) → i < 25 → rho_at a i ≡ rotate (get_or a i 0) (get_or offsets i 0)
rho-at a i h = ap₂ rotate (at_place a i h) (at_place offsets i h)

module _ (a : List ℕ) (i : ℕ) (z : i % 5 ≡ 0) (h : i < 25) where
  -- in the row that starts at i, the k-th lane
  of_row : (k : ℕ) → k < 5 → lane a ((i + k) % 5) ((i + k) / 5) ≡ get_or (row_at a i) k 0
  of_row k l = at_place a (i + k) (omega arith) ∙ sym (get_d_tabulate 5 k (λ j. get_or a (i + j) 0) l)

  -- and the lane m places on, the first again after the last
  on_row : (k m : ℕ) → k < 5 → lane a ((i + k) % 5 + m) ((i + k) / 5) ≡ get_or (row_at a i) ((k + m) % 5) 0
  on_row k m l =
      let p : ((i + k) % 5 + m) % 5 + 5 * ((i + k) / 5 % 5) ≡ i + (k + m) % 5 = omega arith in
      ap (λ (j : ℕ). get_or a j 0) p ∙ sym (get_d_tabulate 5 ((k + m) % 5) (λ j. get_or a (i + j) 0) (omega arith))

  pub theta_row_lem : (d : List ℕ) → theta_row (row_at a i) d ≡ tabulate 5 (λ k. theta_at a d (i + k))
  theta_row_lem d =
      tabulate-same 5 (λ k. get_or (row_at a i) k 0 ⊕ get_or d k 0) (λ k. theta_at a d (i + k))
      (λ k l. ap₂ ◌⊕◌ (sym (of_row k l)) (ap (λ (j : ℕ). get_or d j 0) (omega arith)))

  pub chi_row_lem : chi_row (row_at a i) ≡ tabulate 5 (λ k. chi_at a (i + k))
  chi_row_lem =
      tabulate-same 5 (λ k. chi_lane (get_or (row_at a i) k 0) (get_or (row_at a i) ((k + 1) % 5) 0) (get_or (row_at a i) ((k + 2) % 5) 0))
      (λ k. chi_at a (i + k))
      (λ k l. ap₂ (λ (x y : ℕ). chi_lane x y (get_or (row_at a i) ((k + 2) % 5) 0)) (sym (of_row k l)) (sym (on_row k 1 l))
      ∙ ap (λ (y : ℕ). chi_lane (lane a ((i + k) % 5) ((i + k) / 5)) (lane a ((i + k) % 5 + 1) ((i + k) / 5)) y) (sym (on_row k 2 l)))

-- a row copied to the place i on is put in there
pub row_put : (b r ys : List ℕ) (i k : ℕ) → ys ≡ r → k ≡ length r → i + length r ≤ length b → put_mid i k b ys ≡ sets b i r
row_put b r ys i k e f h =
    ap₂ (λ (m : ℕ) (x : List ℕ). take i b ++ (x ++ drop m (drop i b))) f e
    ∙ ap (λ (x : List ℕ). take i b ++ (r ++ x)) (drop-drop (length r) i b)
    ∙ sym (append_assoc (take i b) r (drop (i + length r) b))
    ∙ sym (sets-eq r b i h)

-- the row y put in
pub row_filled : {f : ℕ → ℕ} {y : ℕ} {b b' : List ℕ} (r : List ℕ) → y < 5 → r ≡ tabulate 5 (λ k. f (5 * y + k)) → b' ≡ sets b (5 * y) r
    → Filling f 25 (5 * y) b → Filling f 25 (5 * (y + 1)) b'
row_filled {f} {y} {b} {b'} r h e w p =
    let next : 5 * y + 5 ≡ 5 * (y + 1) = omega arith in
    rw next at (fill_part 5 r (omega arith) e w p)

-- where a column's lanes stand
pub column : (a : List ℕ) (x : ℕ) → x < 5
    → get_or a x 0 ⊕ get_or a (x + 5) 0 ⊕ get_or a (x + 10) 0 ⊕ get_or a (x + 15) 0 ⊕ get_or a (x + 20) 0 ≡ parity a x
column a x h =
    let e₀ : x ≡ x % 5 + 0 = omega arith in
    let e₁ : x + 5 ≡ x % 5 + 5 = omega arith in
    let e₂ : x + 10 ≡ x % 5 + 10 = omega arith in
    let e₃ : x + 15 ≡ x % 5 + 15 = omega arith in
    let e₄ : x + 20 ≡ x % 5 + 20 = omega arith in
    cc
