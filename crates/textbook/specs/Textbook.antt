-- What the definitions that the contracts cite are, by the textbook: docs/TEXTBOOK.md says where each stands there. Definitions only.
-- `textbook` in src/lib.rt promises the record `Textbook`.
use Rattle.std.specs.Prelude.{◌≡◌, ℕ, ◌<◌, Ok}
use Rattle.answer.specs.Answer.{mapped}
use Rattle.answer.specs.Outcome.{Left, unchanged, this, Outcome, final, done}
use Rattle.algebra.specs.Matrix.{Vector, Matrix}
use Rattle.algebra.specs.Inverse as AlgebraInverse
use Rattle.algebra.specs.Cholesky as AlgebraCholesky
use Rattle.filtering.specs.Filter.{Motion, Sensor, Estimate, estimate}
use Rattle.filtering.specs.Linear as FilteringLinear
use Rattle.filtering.specs.Information as FilteringInformation
use Rattle.filtering.specs.SquareRoot as FilteringSquareRoot
use Rattle.textbook.specs.Arithmetic.{Arithmetic, rounded, Exact}
use Rattle.textbook.specs.Matrices.{Vec, Mat, at, cell, Inverse, Lower, NonzeroDiagonal, Factor, Downdated}
use Rattle.textbook.specs.Elimination.{inv}
use Rattle.textbook.specs.Factor.{cholesky}
use Rattle.textbook.specs.Downdate.{textbook, rust, rotated}
use Rattle.textbook.specs.Linear as Linear
use Rattle.textbook.specs.Information as Information
use Rattle.textbook.specs.Information.{Informs}
use Rattle.textbook.specs.Binary.{binary}
use Rattle.textbook.specs.Example.{Example}

-- ---- the same numbers in the filtering crate's records

abbrev pub estimated : Linear.Estimate rounded → Estimate
estimated e = estimate e.state e.covariance

abbrev pub informed : Information.Information rounded → FilteringInformation.Information
informed o = record { matrix = o.matrix; vector = o.vector }

abbrev pub left_as : {S T : Type 0} → (S → T) → Left S → Left T
left_as f unchanged = unchanged
left_as f (this s) = this (f s)

abbrev pub outcome_as : {S T R : Type 0} → (S → T) → Outcome S R → Outcome T R
outcome_as f o = record { told = o.told; left = left_as f o.left }

-- At rounded binary64 the generic definitions are those that the contracts cite
pub record AtRounded : Type 0 where
  pub inverse : (n : ℕ) (A : Matrix) → inv rounded n A ≡ AlgebraInverse.inv n A
  pub cholesky-factor : (n : ℕ) (A : Matrix) → cholesky rounded n A ≡ AlgebraCholesky.cholesky n A
  -- the square-root filter's downdate is the Rust's form of it
  pub downdate : (n k : ℕ) (L : Matrix) (v : Vector) → rotated rounded (rust rounded) n k L v ≡ FilteringSquareRoot.rotated n k L v
  pub linear-predict : (M : Motion) (u : Vector) (e : Linear.Estimate rounded)
      → outcome_as estimated (Linear.predict rounded M.n M.i M.a M.b M.q u e) ≡ FilteringLinear.predict M u (estimated e)
  pub linear-update : (Y : Sensor Matrix) (z : Vector) (e : Linear.Estimate rounded)
      → outcome_as estimated (Linear.update rounded Y.n Y.m Y.h Y.r z e) ≡ FilteringLinear.update Y z (estimated e)
  pub information-start : (n : ℕ) (e : Linear.Estimate rounded)
      → mapped informed (Information.of_estimate rounded n e) ≡ FilteringInformation.of_estimate n (estimated e)
  pub information-state : (n : ℕ) (o : Information.Information rounded) → Information.state rounded n o
      ≡ FilteringInformation.state n (informed o)
  pub information-covariance : (n : ℕ) (o : Information.Information rounded)
      → Information.covariance rounded n o ≡ FilteringInformation.covariance n (informed o)
  pub information-predict : (M : Motion) (u : Vector) (o : Information.Information rounded)
      → outcome_as informed (Information.predict rounded M.n M.i M.a M.b M.q u o) ≡ FilteringInformation.predict M u (informed o)
  pub information-update : (Y : Sensor Matrix) (z : Vector) (o : Information.Information rounded)
      → outcome_as informed (Information.update rounded Y.n Y.m Y.h Y.r z o) ≡ FilteringInformation.update Y z (informed o)

-- In an exact arithmetic they are what the textbook says, for every size
pub record InExact (N : Arithmetic) : Type 0 where
  -- A B = I = B A
  pub inverse : (n : ℕ) (A B : Mat N) → inv N n A ≡ Ok B → Inverse N n A B
  -- L Lᵀ = A
  pub cholesky-factor : (n : ℕ) (A L : Mat N) → cholesky N n A ≡ Ok L → Factor N n A L
  -- the textbook's form of the downdate: the L' that it leaves has L' L'ᵀ = L Lᵀ - v vᵀ
  pub downdate : (n : ℕ) (L : Mat N) (v v' : Vec N) → Lower N n L → NonzeroDiagonal N n L
      → (rotated N (textbook N) n n L v).told ≡ Ok v' → Downdated N n L v (final L (rotated N (textbook N) n n L v).left)
  -- the information filter starts as the information of its estimate
  pub information-start : (n : ℕ) (e : Linear.Estimate N) (o : Information.Information N)
      → Information.of_estimate N n e ≡ Ok o → Informs N n e o
  -- each of its steps leaves the information of the estimate that the linear filter's leaves
  pub information-predict : (n i : ℕ) (A B Q : Mat N) (u : Vec N) (e : Linear.Estimate N) (o o' : Information.Information N)
      → Informs N n e o → Information.predict N n i A B Q u o ≡ done tt o' → Informs N n (Linear.predicted N n i A B Q u e) o'
  pub information-update : (n m : ℕ) (H R W : Mat N) (z y : Vec N) (e e' : Linear.Estimate N) (o : Information.Information N)
      → Informs N n e o → Linear.update N n m H R z e ≡ done y e' → inv N m R ≡ Ok W
      → Informs N n e' (final o (Information.update N n m H R z o).left)
  -- and the state and the covariance that it answers are that estimate's
  pub information-state : (n : ℕ) (e : Linear.Estimate N) (o : Information.Information N) (x : Vec N)
      → Informs N n e o → Information.state N n o ≡ Ok x → (i : ℕ) → i < n → at N x i ≡ at N e.state i
  pub information-covariance : (n : ℕ) (e : Linear.Estimate N) (o : Information.Information N) (P : Mat N)
      → Informs N n e o → Information.covariance N n o ≡ Ok P → (i j : ℕ) → i < n → j < n → cell N P i j ≡ cell N e.covariance i j

pub record Textbook : Type 1 where
  pub at_rounded : AtRounded
  pub in_exact : (N : Arithmetic) → Exact N → InExact N
  -- the laws of an exact arithmetic can be met
  pub exact : Exact binary
  pub example : Example
