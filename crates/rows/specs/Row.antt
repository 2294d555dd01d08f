-- The operations on rows of four numbers. Definitions only.
use Rattle.std.specs.Prelude.{ℕ, List, Float}
use Rattle.scalar.specs.Number.{◌⊕◌, ◌⊗◌}
use Rattle.answer.specs.Table.{table}
use Rattle.algebra.specs.Matrix.{Vector, Matrix, at, cell, mat, sum_of}

-- f of the numbers of v and w, place by place
abbrev pub pairwise : (Float → Float → Float) → ℕ → Vector → Vector → Vector
pairwise f n v w = table n (λ i. f (at v i) (at w i))

-- and of the cells of A and B
abbrev pub cellwise : (Float → Float → Float) → ℕ → ℕ → Matrix → Matrix → Matrix
cellwise f r c A B = mat r c (λ i j. f (cell A i j) (cell B i j))

-- s + x v
unfoldable pub plus_scaled : List Float → Float → List Float → List Float
plus_scaled s x v = table 4 (λ j. at s j ⊕ (x ⊗ at v j))

-- v × the first k rows of b, in all four columns
unfoldable pub row_times : ℕ → List Float → List (List Float) → List Float
row_times k v b = table 4 (λ j. sum_of k (λ t. at v t ⊗ cell b t j))

-- v × the first k rows of transposed b
unfoldable pub row_times_transposed : ℕ → List Float → List (List Float) → List Float
row_times_transposed k v b = table 4 (λ j. sum_of k (λ t. at v t ⊗ cell b j t))
