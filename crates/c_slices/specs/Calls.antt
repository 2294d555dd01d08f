-- What each call answers: refused with 1 where a size is none or a slice has another length, else the operation of algebra. Definitions only.
-- a, b, v and w are the slices that are read, and k is how many numbers the lent slice has.
use Rattle.std.specs.Prelude.{ℕ, List, [], ◌∷◌, Bool, ◌&&◌, eqb, length, Float}
use Rattle.scalar.specs.Number.{+0, one, two, half, π, epsilon}
use Rattle.answer.specs.Answer.{Answer, mapped, where_sized, if_sized}
use Rattle.algebra.specs.Matrix.{cell, zeros, filled, identity, set_cell, transpose, scale, negated, frob_norm, trace, add, sub, equal, mul}
use Rattle.algebra.specs.Matrix.{matvec, outer, vec_add, vec_sub, vec_scale, dot, vec_norm}
use Rattle.algebra.specs.Inverse.{inv}
use Rattle.algebra.specs.Cholesky.{cholesky}
use Rattle.sizes.specs.Size.{inside}
use Rattle.rows.specs.Row.{pairwise, cellwise}
use Rattle.layout.specs.Layout.{joined}
use Rattle.c_slices.specs.Slices.{is_matrix, is_vector, rows}

abbrev pub Slice : Type 0
Slice = List Float

-- ---- constructors
abbrev pub zeros_in : ℕ → ℕ → ℕ → Answer Slice
zeros_in r c k = where_sized (is_matrix r c k) (joined (zeros r c))

abbrev pub filled_in : ℕ → ℕ → Float → ℕ → Answer Slice
filled_in r c x k = where_sized (is_matrix r c k) (joined (filled r c x))

abbrev pub identity_in : ℕ → ℕ → Answer Slice
identity_in n k = where_sized (is_matrix n n k) (joined (identity n))

-- ---- one matrix
abbrev pub transpose_in : ℕ → ℕ → Slice → ℕ → Answer Slice
transpose_in r c a k = where_sized (is_matrix r c (length a) && is_matrix c r k) (joined (transpose r c (rows r c a)))

abbrev pub scale_in : ℕ → ℕ → Slice → Float → ℕ → Answer Slice
scale_in r c a s k = where_sized (is_matrix r c (length a) && is_matrix r c k) (joined (scale r c (rows r c a) s))

abbrev pub neg_in : ℕ → ℕ → Slice → ℕ → Answer Slice
neg_in r c a k = where_sized (is_matrix r c (length a) && is_matrix r c k) (joined (negated r c (rows r c a)))

abbrev pub frob_norm_in : ℕ → ℕ → Slice → Answer Float
frob_norm_in r c a = where_sized (is_matrix r c (length a)) (frob_norm r c (rows r c a))

abbrev pub trace_in : ℕ → Slice → Answer Float
trace_in n a = where_sized (is_matrix n n (length a)) (trace n (rows n n a))

-- inversion may reject the matrix, with 3, and Cholesky's factor a diagonal, with 4
abbrev pub inv_in : ℕ → Slice → ℕ → Answer Slice
inv_in n a k = if_sized (is_matrix n n (length a) && is_matrix n n k) (mapped joined (inv n (rows n n a)))

abbrev pub cholesky_in : ℕ → Slice → ℕ → Answer Slice
cholesky_in n a k = if_sized (is_matrix n n (length a) && is_matrix n n k) (mapped joined (cholesky n (rows n n a)))

-- ---- cells: row i and column j, from 0, lie inside
abbrev pub get_in : ℕ → ℕ → ℕ → ℕ → Slice → Answer Float
get_in r c i j a = where_sized (is_matrix r c (length a) && inside r c i j) (cell (rows r c a) i j)

abbrev pub set_in : ℕ → ℕ → ℕ → ℕ → Slice → Float → ℕ → Answer Slice
set_in r c i j a x k = where_sized ((is_matrix r c (length a) && is_matrix r c k) && inside r c i j) (joined (set_cell r c i j x (rows r c a)))

-- ---- two matrices
abbrev pub add_in : ℕ → ℕ → Slice → Slice → ℕ → Answer Slice
add_in r c a b k = where_sized (is_matrix r c (length a) && (is_matrix r c (length b) && is_matrix r c k)) (joined (add r c (rows r c a) (rows r c b)))

abbrev pub sub_in : ℕ → ℕ → Slice → Slice → ℕ → Answer Slice
sub_in r c a b k = where_sized (is_matrix r c (length a) && (is_matrix r c (length b) && is_matrix r c k)) (joined (sub r c (rows r c a) (rows r c b)))

-- of which these are the sum and the difference
abbrev pub cellwise_in : (Float → Float → Float) → ℕ → ℕ → Slice → Slice → ℕ → Answer Slice
cellwise_in f r c a b k = where_sized (is_matrix r c (length a) && (is_matrix r c (length b) && is_matrix r c k)) (joined (cellwise f r c (rows r c a) (rows r c b)))

abbrev pub eq_in : ℕ → ℕ → Slice → Slice → Answer Bool
eq_in r c a b = where_sized (is_matrix r c (length a) && is_matrix r c (length b)) (equal r c (rows r c a) (rows r c b))

abbrev pub product_in : ℕ → ℕ → ℕ → Slice → Slice → Slice
product_in r m c a b = joined (mul r m c (rows r m a) (rows m c b))

abbrev pub mul_in : ℕ → ℕ → ℕ → Slice → Slice → ℕ → Answer Slice
mul_in r m c a b k = where_sized (is_matrix r m (length a) && (is_matrix m c (length b) && is_matrix r c k)) (product_in r m c a b)

-- ---- vectors
abbrev pub matvec_in : ℕ → ℕ → Slice → Slice → ℕ → Answer Slice
matvec_in r c a v k = where_sized (is_matrix r c (length a) && (is_vector c (length v) && is_vector r k)) (matvec r c (rows r c a) v)

abbrev pub outer_in : ℕ → ℕ → Slice → Slice → ℕ → Answer Slice
outer_in r c v w k = where_sized (is_vector r (length v) && (is_vector c (length w) && is_matrix r c k)) (joined (outer r c v w))

abbrev pub vec_add_in : ℕ → Slice → Slice → ℕ → Answer Slice
vec_add_in n v w k = where_sized (is_vector n (length v) && (is_vector n (length w) && is_vector n k)) (vec_add n v w)

abbrev pub vec_sub_in : ℕ → Slice → Slice → ℕ → Answer Slice
vec_sub_in n v w k = where_sized (is_vector n (length v) && (is_vector n (length w) && is_vector n k)) (vec_sub n v w)

abbrev pub pairwise_in : (Float → Float → Float) → ℕ → Slice → Slice → ℕ → Answer Slice
pairwise_in f n v w k = where_sized (is_vector n (length v) && (is_vector n (length w) && is_vector n k)) (pairwise f n v w)

abbrev pub vec_scale_in : ℕ → Slice → Float → ℕ → Answer Slice
vec_scale_in n v s k = where_sized (is_vector n (length v) && is_vector n k) (vec_scale n v s)

abbrev pub dot_in : ℕ → Slice → Slice → Answer Float
dot_in n v w = where_sized (is_vector n (length v) && is_vector n (length w)) (dot n v w)

abbrev pub vec_norm_in : ℕ → Slice → Answer Float
vec_norm_in n v = where_sized (is_vector n (length v)) (vec_norm n v)

-- ---- the constants of the number type: ZERO, ONE, TWO, HALF, PI and EPSILON
abbrev pub constant_numbers : Slice
constant_numbers = +0 ∷ one ∷ two ∷ half ∷ π ∷ epsilon ∷ []

abbrev pub constants_in : ℕ → Answer Slice
constants_in k = where_sized (eqb k 6) constant_numbers
