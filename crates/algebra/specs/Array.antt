-- The tie between arrays of four, of which a part is used, and vectors and matrices of exactly the used size. Definitions only.
use Rattle.std.specs.Prelude.{ℕ, ◌+◌, ◌*◌, ◌/◌, ◌%◌, List, map, get_or, replicate, Float}
use Rattle.std.specs.Float.{nan}
use Rattle.scalar.specs.Number.{+0}
use Rattle.answer.specs.Table.{table, pad_to}
use Rattle.algebra.specs.Matrix.{Vector, Matrix, at, row, cell, mat}

-- the used n numbers of an array
unfoldable pub cut : ℕ → List Float → Vector
cut n v = table n (λ j. at v j)

-- the used r rows and c columns of an array of rows
unfoldable pub used : ℕ → ℕ → List (List Float) → Matrix
used r c a = table r (λ i. cut c (row a i))

-- an array of four: the numbers of v, then +0
abbrev pub pad_row : Vector → List Float
pad_row v = pad_to 4 +0 v

-- four rows of four: the cells of A, and +0 outside
unfoldable pub pad : Matrix → List (List Float)
pad A = pad_to 4 (replicate 4 +0) (map pad_row A)

-- the used part of an array of rows that stand flat, four numbers a row
unfoldable pub used_flat : ℕ → ℕ → List Float → Matrix
used_flat r c f = mat r c (λ i j. get_or f (i * 4 + j) nan)

-- ---- four rows of four that stand flat in a record

-- row i is numbers 4 i to 4 i + 3
unfoldable pub rows_of_flat : List Float → List (List Float)
rows_of_flat f = used_flat 4 4 f

-- number n is that of row n / 4, column n % 4
unfoldable pub flat_of_rows : List (List Float) → List Float
flat_of_rows a = table 16 (λ n. cell a (n / 4) (n % 4))
