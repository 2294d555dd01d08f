-- What is promised of inversion and of Cholesky's factor: the only number that each refuses with, and what of the matrix each reads. Definitions only.
use Rattle.std.specs.Prelude.{ℕ, ◌<◌, ◌≤◌, ◌≡◌, Err}
use Rattle.answer.specs.declared.Refusal.TheVariants.{SingularMatrix, NotPositiveDefinite}
use Rattle.answer.specs.declared.Refusal.{Refusal}
use Rattle.algebra.specs.Matrix.{Matrix, cell}
use Rattle.algebra.specs.Inverse.{inv}
use Rattle.algebra.specs.Cholesky.{cholesky}

pub record InverseAndFactor : Type 0 where
  pub inverse-refused : (n : ℕ) (A : Matrix) (k : Refusal) → inv n A ≡ Err k → k ≡ SingularMatrix
  pub factor-refused : (n : ℕ) (A : Matrix) (k : Refusal) → cholesky n A ≡ Err k → k ≡ NotPositiveDefinite
  -- the n by n part alone, and of it the lower triangle alone
  pub inverse-reads : (n : ℕ) (A B : Matrix) → ((i j : ℕ) → i < n → j < n → cell A i j ≡ cell B i j) → inv n A ≡ inv n B
  pub factor-reads : (n : ℕ) (A B : Matrix) → ((i j : ℕ) → i < n → j ≤ i → cell A i j ≡ cell B i j) → cholesky n A ≡ cholesky n B
