-- Cells of matrices made cell by cell. Assumes nothing.
use mathlib.Core.Path.{◌≡◌, sym, ap, ◌∙◌}
use mathlib.Core.List.{[]}
use Prim.Native.Nat.{ℕ, ◌<◌}
use Rattle.answer.specs.Table.{table}
use Rattle.answer.proofs.Tables.{get_or-table, table_ext}
use Rattle.textbook.specs.Arithmetic.{Arithmetic, Exact}
use Rattle.textbook.specs.Matrices as M
use Rattle.textbook.proofs.Field as F

module _ (N : Arithmetic) where
  pub cell-mat : (r c : ℕ) (f : ℕ → ℕ → N.Num) (i j : ℕ) → i < r → j < c → M.cell N (M.mat N r c f) i j ≡ f i j
  cell-mat r c f i j hi hj =
      ap (λ (v : M.Vec N). M.at N v j) (get_or-table r (λ k. table c (λ l. f k l)) i [] hi) ∙ get_or-table c (λ l. f i l) j N.none hj

  pub mat_ext : (r c : ℕ) (f g : ℕ → ℕ → N.Num) → ((i j : ℕ) → i < r → j < c → f i j ≡ g i j) → M.mat N r c f ≡ M.mat N r c g
  mat_ext r c f g e =
      table_ext r (λ i. table c (λ j. f i j)) (λ i. table c (λ j. g i j)) (λ i hi. table_ext c (λ j. f i j) (λ j. g i j) (λ j hj. e i j hi hj))

module _ (N : Arithmetic) (X : Exact N) (n : ℕ) (L : M.Mat N) where
  pub gram_is : (i j : ℕ) → i < n → j < n → M.gram N n L i j ≡ M.sum_of N n (λ t. N.times (M.cell N L i t) (M.cell N L j t))
  unfolding M.mul M.transpose
  gram_is i j hi hj =
      cell-mat N n n (λ i j. M.sum_of N n (λ t. N.times (M.cell N L i t) (M.cell N (M.transpose N n n L) t j))) i j hi hj
      ∙ F.sum_ext N X n (λ t. N.times (M.cell N L i t) (M.cell N (M.transpose N n n L) t j)) (λ t. N.times (M.cell N L i t) (M.cell N L j t))
      (λ t l. ap (N.times (M.cell N L i t)) (cell-mat N n n (λ i j. M.cell N L j i) t j l hj))

  pub gram-turned : (i j : ℕ) → i < n → j < n → M.gram N n L i j ≡ M.gram N n L j i
  gram-turned i j hi hj =
      gram_is i j hi hj
      ∙ F.sum_ext N X n (λ t. N.times (M.cell N L i t) (M.cell N L j t)) (λ t. N.times (M.cell N L j t) (M.cell N L i t))
      (λ t l. X.times-comm _ _)
      ∙ sym (gram_is j i hj hi)
