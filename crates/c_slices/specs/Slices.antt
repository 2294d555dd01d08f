-- What a caller lends: slices of numbers with their sizes beside them, a matrix by rows. Definitions only.
use Rattle.std.specs.Prelude.{ℕ, ◌*◌, List, Bool, ◌&&◌, eqb, Float}
use Rattle.algebra.specs.Matrix.{Matrix}
use Rattle.sizes.specs.Size.{shaped}
use Rattle.layout.specs.Layout.{matrix_at}

-- a slice of k numbers is just r rows of c numbers, r and c sizes
unfoldable pub is_matrix : ℕ → ℕ → ℕ → Bool
is_matrix r c k = shaped r c && eqb k (r * c)

-- a vector of n numbers is a column
abbrev pub is_vector : ℕ → ℕ → Bool
is_vector n k = is_matrix n 1 k

-- the matrix in a slice
abbrev pub rows : ℕ → ℕ → List Float → Matrix
rows r c b = matrix_at r c b 0
