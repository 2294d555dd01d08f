-- Cholesky's factor for any size: the lower triangle L with L × transposed L = A, row by row. Golub and Van Loan, 4.2. Definitions only.
-- Of A only the lower triangle is read.
use Rattle.std.specs.Prelude.{ℕ, zero, suc, Bool, [], ◌∷◌, ◌++◌, Float, Ok}
use Rattle.std.specs.Float.Ieee.{le}
use Rattle.root.specs.Root.{root}
use Rattle.scalar.specs.Number.{◌⊖◌, ◌⊘◌, +0}
use Rattle.answer.specs.declared.Refusal.TheVariants.{NotPositiveDefinite}
use Rattle.answer.specs.Answer.{Answer, and_then, mapped, refused_if}
use Rattle.answer.specs.Table.{pad_to}
use Rattle.algebra.specs.Matrix.{Vector, Matrix, at, row, cell, dot}

-- a diagonal is refused: at or below zero, so a NaN passes
unfoldable pub no_diagonal : Float → Bool
no_diagonal d = le d +0

-- the cell on the diagonal: the root of what is left of A's, d
unfoldable pub diagonal_of : Float → Answer Float
diagonal_of d = refused_if (no_diagonal d) NotPositiveDefinite (root d)

-- the first j cells of row i of L, left of the diagonal: L i j = (A i j - sum over k < j of L i k × L j k) / L j j
-- a is row i of A, and L has the rows above
unfoldable pub left_cells : Vector → Matrix → ℕ → Vector
left_cells a L zero = []
left_cells a L (suc j) =
    let v = left_cells a L j in
    v ++ ((at a j ⊖ dot j v (row L j)) ⊘ cell L j j) ∷ []

-- row i of L: the cells left of the diagonal; L i i = root (A i i - sum over k < i of L i k × L i k); and +0 right of it
unfoldable pub factor_row : ℕ → Vector → Matrix → ℕ → Answer Vector
factor_row n a L i =
    let v = left_cells a L i in
    mapped (λ x. pad_to n +0 (v ++ x ∷ [])) (diagonal_of (at a i ⊖ dot i v v))

-- the first i rows of L
unfoldable pub factor_rows : ℕ → Matrix → ℕ → Answer Matrix
factor_rows n A zero = Ok []
factor_rows n A (suc i) = and_then (factor_rows n A i) (λ L. mapped (λ v. L ++ v ∷ []) (factor_row n (row A i) L i))

unfoldable pub cholesky : ℕ → Matrix → Answer Matrix
cholesky n A = factor_rows n A n
