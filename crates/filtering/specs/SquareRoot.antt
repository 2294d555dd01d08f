-- The square-root filter, in the order of rounding of sqrt_kalman.rs. It keeps the state, and Cholesky's factor L of its covariance. Definitions only.
use Rattle.std.specs.Prelude.{ℕ, zero, suc, cond, [], ◌∷◌, ◌++◌, eqb, ltb, Float}
use Rattle.std.specs.Float.Ieee.{le}
use Rattle.root.specs.Root.{root}
use Rattle.scalar.specs.Number.{◌⊕◌, ◌⊖◌, ◌⊗◌, ◌⊘◌, +0}
use Rattle.answer.specs.declared.Refusal.TheVariants.{SingularMatrix, NotPositiveDefinite}
use Rattle.answer.specs.Answer.{Answer, mapped, refused_if}
use Rattle.answer.specs.Table.{table}
use Rattle.answer.specs.Outcome.{Outcome, unchanged, this, final, only, done, ◌else_leave◌then◌, onward}
use Rattle.algebra.specs.Matrix.{Vector, Matrix, at, row, cell, mat, dot, mul, matvec, transpose, vec_add, vec_scale}
use Rattle.algebra.specs.Cholesky.{cholesky}
use Rattle.filtering.specs.Filter.{Motion, Sensor, Estimate, predicted_state, predicted_covariance}

pub record Factored : Type 0 where
  pub state : Vector
  pub factor : Matrix

abbrev pub factored : Vector → Matrix → Factored
factored x L = record { state = x; factor = L }

-- of an estimate, for `new` and `reset`: refused with 4 where it has no factor
unfoldable pub of_estimate : ℕ → Estimate → Answer Factored
of_estimate n e = mapped (factored e.state) (cholesky n e.covariance)

-- L Lᵀ
unfoldable pub covariance : ℕ → Factored → Matrix
covariance n f = mul n n n f.factor (transpose n n f.factor)

-- Refused with 4: the new covariance has no factor. The state is then the new one, and the factor the old
unfoldable pub predict : Motion → Vector → Factored → Outcome Factored (Unit {0})
predict M u f =
    let x = predicted_state M u f.state in
    cholesky M.n (predicted_covariance M (covariance M.n f)) else_leave (this (factored x f.factor)) then λ L.
    done tt (factored x L)

-- ---- the downdate of L by v, column by column; what is told is v as the columns so far have turned it.
-- It is the Rust's: its v turns by the old cell of L (docs/DIFFERENCES.md)

-- a new diagonal by its square, refused with 4 at or below zero; a NaN passes. A test of its own: Cholesky's may change without it
unfoldable pub turned_diagonal : Float → Answer Float
turned_diagonal d = refused_if (le d +0) NotPositiveDefinite (root d)

-- column k: d is its new diagonal, and the cells below it turn. Refused with 4: d² is at or below zero
unfoldable pub rotate : ℕ → ℕ → Matrix → Vector → Outcome Matrix Vector
rotate n k L v =
    let l = cell L k k in
    turned_diagonal (l ⊗ l ⊖ at v k ⊗ at v k) else_leave unchanged then λ d.
    let c = d ⊘ l in
    let s = at v k ⊘ l in
    let column = table n (λ i. cond (ltb k i) ((cell L i k ⊖ s ⊗ at v i) ⊘ c) (cond (eqb i k) d (cell L i k))) in
    done (table n (λ i. cond (ltb k i) (c ⊗ at v i ⊖ s ⊗ cell L i k) (at v i))) (mat n n (λ i j. cond (eqb j k) (at column i) (cell L i j)))

-- the first k columns
unfoldable pub rotated : ℕ → ℕ → Matrix → Vector → Outcome Matrix Vector
rotated n zero L v = only v
rotated n (suc k) L v = onward L (rotated n k L v) (rotate n k)

-- ---- the update: one component of the measurement after another, each from what the one before it left

-- a variance at or below zero is refused with 3; a NaN passes
unfoldable pub variance : Float → Answer Float
variance s = refused_if (le s +0) SingularMatrix s

-- v / s
unfoldable pub vec_over : ℕ → Vector → Float → Vector
vec_over n v s = table n (λ i. at v i ⊘ s)

-- A component: h is its row of H, r its deviation, z its measurement, y the innovations before it.
-- Where the downdate is refused the state is the new one, and the columns before the failing one are rotated
unfoldable pub component : ℕ → Vector → Float → Float → Factored → Vector → Outcome Factored Vector
component n h r z f y =
    let x = f.state in
    let L = f.factor in
    let e = z ⊖ dot n h x in
    let t = matvec n n (transpose n n L) h in
    variance (dot n t t ⊕ r ⊗ r) else_leave unchanged then λ s.
    let g = matvec n n L t in
    let w = rotated n n L (vec_over n g (root s)) in
    record { told = mapped (λ v. y ++ e ∷ []) w.told; left = this (factored (vec_add n x (vec_scale n (vec_over n g s) e)) (final L w.left)) }

-- the first k components; what is told are the innovations
unfoldable pub components : Sensor Vector → ℕ → Vector → Factored → Outcome Factored Vector
components Y zero z f = only []
components Y (suc k) z f = onward f (components Y k z f) (component Y.n (row Y.h k) (at Y.r k) (at z k))

unfoldable pub update : Sensor Vector → Vector → Factored → Outcome Factored Vector
update Y z f = components Y Y.m z f
