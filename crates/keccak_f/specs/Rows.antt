-- The rows of a state, as the code works on them.
use Rattle.std.specs.Prelude.{ℕ, ◌+◌, ◌%◌, List, get_or}
use Rattle.keccak_f.specs.Tabulate.{tabulate}
use Rattle.keccak_f.specs.Permutation.{◌⊕◌, chi_lane}

-- five lanes from place i on
abbrev pub row_at : List ℕ → ℕ → List ℕ
row_at a i = tabulate 5 (λ k. get_or a (i + k) 0)

abbrev pub theta_row : List ℕ → List ℕ → List ℕ
theta_row r d = tabulate 5 (λ x. get_or r x 0 ⊕ get_or d x 0)

abbrev pub chi_row : List ℕ → List ℕ
chi_row r = tabulate 5 (λ x. chi_lane (get_or r x 0) (get_or r ((x + 1) % 5) 0) (get_or r ((x + 2) % 5) 0))
