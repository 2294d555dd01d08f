-- Vectors and matrices in a slice of numbers, a matrix by rows; and layouts, the parts of a slice one after another. Definitions only.
use Rattle.std.specs.Prelude.{ℕ, ◌+◌, ◌*◌, List, [], ◌∷◌, ◌++◌, Bool, cond, leb, length, get_or, take, drop, Float}
use Rattle.answer.specs.Table.{table}
use Rattle.algebra.specs.Matrix.{Vector, Matrix, at, mat}

-- ---- what stands in a slice b from number k on

-- n numbers
abbrev pub vector_at : ℕ → List Float → ℕ → Vector
vector_at n b k = table n (λ i. at b (k + i))

-- r rows of c numbers
abbrev pub matrix_at : ℕ → ℕ → List Float → ℕ → Matrix
matrix_at r c b k = mat r c (λ i j. at b (k + i * c + j))

-- ---- what is placed there

-- rows, one after another
abbrev pub joined : List (List Float) → List Float
joined [] = []
joined (l ∷ m) = l ++ joined m

-- b with the numbers l in place of those from number k on; every other number as it was
unfoldable pub placed : ℕ → List Float → List Float → List Float
placed k l b = take k b ++ l ++ drop (k + length l) b

-- ---- where the numbers lie within b; else a reading finds nothing, and a writing leaves b as it was

-- n numbers from number k on lie within a slice of m numbers
unfoldable pub room : ℕ → ℕ → ℕ → Bool
room k n m = leb (k + n) m

abbrev pub vector_in : ℕ → List Float → ℕ → Vector
vector_in n b k = cond (room k n (length b)) (vector_at n b k) []

abbrev pub matrix_in : ℕ → ℕ → List Float → ℕ → Matrix
matrix_in r c b k = cond (room k (r * c) (length b)) (matrix_at r c b k) []

abbrev pub put_at : ℕ → List Float → List Float → List Float
put_at k l b = cond (room k (length l) (length b)) (placed k l b) b

-- ---- layouts

-- the parts of a slice, each by its rows and columns; they lie one after another, each by rows
abbrev pub Parts : Type 0
Parts = List (ℕ × ℕ)

abbrev pub part_rows : Parts → ℕ → ℕ
part_rows L k = (get_or L k (0, 0)).0

abbrev pub part_columns : Parts → ℕ → ℕ
part_columns L k = (get_or L k (0, 0)).1

-- how many numbers part k takes, and how many all take
abbrev pub part_size : Parts → ℕ → ℕ
part_size L k = part_rows L k * part_columns L k

abbrev pub total : Parts → ℕ
total [] = 0
total (s ∷ L) = s.0 * s.1 + total L

-- where part k begins: after those before it
abbrev pub offset : Parts → ℕ → ℕ
offset L k = total (take k L)

-- the matrix in part k of a slice b
abbrev pub part_at : Parts → List Float → ℕ → Matrix
part_at L b k = matrix_at (part_rows L k) (part_columns L k) b (offset L k)

-- ---- a state of n numbers with its covariance; a slot, which is two such pairs; and the numbers that they take
abbrev pub pair_parts : ℕ → Parts
pair_parts n = (n, 1) ∷ (n, n) ∷ []

abbrev pub slot_parts : ℕ → Parts
slot_parts n = pair_parts n ++ pair_parts n

abbrev pub pair_length : ℕ → ℕ
pair_length n = n + n * n

abbrev pub stride : ℕ → ℕ
stride n = 2 * n + 2 * (n * n)

-- a filter of n states, m measurements and i inputs: a, b, h, q and r, then the state x and its covariance p
abbrev pub filter_parts : ℕ → ℕ → ℕ → Parts
filter_parts n m i = (n, n) ∷ (n, i) ∷ (m, n) ∷ (n, n) ∷ (m, m) ∷ pair_parts n

-- a model of n states: a, the state x and its covariance p, q, and the likelihood
abbrev pub model_parts : ℕ → Parts
model_parts n = (n, n) ∷ (n, 1) ∷ (n, n) ∷ (n, n) ∷ (1, 1) ∷ []

abbrev pub model_length : ℕ → ℕ
model_length n = n * n + pair_length n + n * n + 1

-- a bank of k models of n states and m measurements: the models, a row for each, the transition, c, r and the probabilities
abbrev pub bank_parts : ℕ → ℕ → ℕ → Parts
bank_parts n m k = (k, model_length n) ∷ (k, k) ∷ (m, n) ∷ (m, m) ∷ (k, 1) ∷ []

-- a square-root filter: r is each measurement's deviation, and the state's factor stands in place of the covariance
abbrev pub root_parts : ℕ → ℕ → ℕ → Parts
root_parts n m i = (n, n) ∷ (n, i) ∷ (m, n) ∷ (n, n) ∷ (m, 1) ∷ pair_parts n
