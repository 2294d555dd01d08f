-- Cholesky's factor, row by row, in any arithmetic: the algebra crate's is this one at `rounded`. Golub and Van Loan, 4.2. Definitions only.
use Rattle.std.specs.Prelude.{ℕ, zero, suc, [], ◌∷◌, ◌++◌, Ok}
use Rattle.answer.specs.declared.Refusal.TheVariants.{NotPositiveDefinite}
use Rattle.answer.specs.Answer.{Answer, and_then, mapped, refused_if}
use Rattle.answer.specs.Table.{pad_to}
use Rattle.textbook.specs.Arithmetic.{Arithmetic}
use Rattle.textbook.specs.Matrices.{Vec, Mat, at, row, cell, dot}

module _ (N : Arithmetic) where
  -- the root of what is left of A's diagonal
  unfoldable pub diagonal_of : N.Num → Answer N.Num
  diagonal_of d = refused_if (N.no_diagonal d) NotPositiveDefinite (N.root d)

  -- L i j = (A i j - sum over k < j of L i k × L j k) / L j j
  unfoldable pub left_cells : Vec N → Mat N → ℕ → Vec N
  left_cells a L zero = []
  left_cells a L (suc j) =
      let v = left_cells a L j in
      v ++ N.over (N.minus (at N a j) (dot N j v (row N L j))) (cell N L j j) ∷ []

  -- L i i = root (A i i - sum over k < i of L i k × L i k)
  unfoldable pub factor_row : ℕ → Vec N → Mat N → ℕ → Answer (Vec N)
  factor_row n a L i =
      let v = left_cells a L i in
      mapped (λ x. pad_to n N.nought (v ++ x ∷ [])) (diagonal_of (N.minus (at N a i) (dot N i v v)))

  -- the first i rows
  unfoldable pub factor_rows : ℕ → Mat N → ℕ → Answer (Mat N)
  factor_rows n A zero = Ok []
  factor_rows n A (suc i) = and_then (factor_rows n A i) (λ L. mapped (λ v. L ++ v ∷ []) (factor_row n (row N A i) L i))

  unfoldable pub cholesky : ℕ → Mat N → Answer (Mat N)
  cholesky n A = factor_rows n A n
