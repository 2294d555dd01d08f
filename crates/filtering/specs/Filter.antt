-- What the filters share: how a state moves and is measured, and the parts of a step, for any sizes; Kalman 1960. Definitions only.
-- A step has the type S → Outcome S R: from the S that a filter keeps, what is told and what is left.
use Rattle.std.specs.Prelude.{ℕ}
use Rattle.algebra.specs.Matrix.{Vector, Matrix, mul, matvec, add, sub, transpose, identity, vec_add, vec_sub}

-- x moves to A x + B u, with process noise Q: n states, i inputs
pub record Motion : Type 0 where
  pub n : ℕ
  pub i : ℕ
  pub a : Matrix
  pub b : Matrix
  pub q : Matrix

-- z = H x is measured, with noise R: n states, m measurements. R is a covariance, or each measurement's deviation
pub record Sensor (R : Type 0) : Type 0 where
  pub n : ℕ
  pub m : ℕ
  pub h : Matrix
  pub r : R

-- a state and its covariance
pub record Estimate : Type 0 where
  pub state : Vector
  pub covariance : Matrix

abbrev pub estimate : Vector → Matrix → Estimate
estimate x P = record { state = x; covariance = P }

-- A x + B u
unfoldable pub predicted_state : Motion → Vector → Vector → Vector
predicted_state M u x = vec_add M.n (matvec M.n M.n M.a x) (matvec M.n M.i M.b u)

-- A P Aᵀ + Q, for an A of r rows and n columns
unfoldable pub propagated : ℕ → ℕ → Matrix → Matrix → Matrix → Matrix
propagated r n A P Q = add r r (mul r n r (mul r n n A P) (transpose r n A)) Q

abbrev pub predicted_covariance : Motion → Matrix → Matrix
predicted_covariance M P = propagated M.n M.n M.a P M.q

-- z - H x
unfoldable pub innovation : ℕ → ℕ → Matrix → Vector → Vector → Vector
innovation m n H x z = vec_sub m z (matvec m n H x)

-- P Hᵀ × W, for an H of m rows and n columns
unfoldable pub gain : ℕ → ℕ → Matrix → Matrix → Matrix → Matrix
gain n m P H W = mul n m m (mul n n m P (transpose m n H)) W

-- x + K y
unfoldable pub corrected_state : ℕ → ℕ → Matrix → Vector → Vector → Vector
corrected_state n m K y x = vec_add n x (matvec n m K y)

-- (I - K H) × P
unfoldable pub corrected_covariance : ℕ → ℕ → Matrix → Matrix → Matrix → Matrix
corrected_covariance n m K H P = mul n n n (sub n n (identity n) (mul n m n K H)) P
