-- The elimination at the sizes 1 and 2, as the straight-line code has it. Definitions only.
use Rattle.std.specs.Prelude.{Float}
use Rattle.answer.specs.declared.Refusal.TheVariants.{SingularMatrix}
use Rattle.answer.specs.Answer.{Answer, and_then, mapped, refused_if}
use Rattle.scalar.specs.Number.{◌⊘◌, one, abs}
use Rattle.algebra.specs.Matrix.{Matrix, cell, one_by_one}
use Rattle.algebra.specs.Inverse.{no_pivot, ◌beside◌, cleared, column, inv}

-- one over a pivot
abbrev pub over : Float → Answer Float
over x = refused_if (no_pivot (abs x)) SingularMatrix (one ⊘ x)

-- the inverse of a matrix of one cell, as a number
unfoldable pub inv_number : Float → Answer Float
inv_number x = mapped (λ W. cell W 0 0) (inv 1 (one_by_one x))

-- the right part in the end, from where the pivot of the first column stands on the diagonal
unfoldable pub from_diagonal : Matrix → Matrix → Answer Matrix
from_diagonal A B = mapped (λ w. w.right) (and_then (refused_if (no_pivot (abs (cell A 0 0))) SingularMatrix (cleared 2 0 (A beside B))) (λ w. column 2 1 w))
