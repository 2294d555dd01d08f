-- Sizes of the parts of a step, and the ways out of an update of the linear filter. Assumes nothing.
use mathlib.Core.Path.{◌≡◌}
use Prim.Native.Nat.{ℕ}
use lib.ListN.{length}
use Rattle.std.specs.Prelude.{Ok, Err}
use Rattle.answer.specs.declared.Refusal.{Refusal}
use Rattle.answer.specs.Answer.{Answer}
use Rattle.answer.specs.Outcome.{Outcome, unchanged, done, ◌else_leave◌then◌}
use Rattle.algebra.specs.Matrix.{Vector, Matrix, mul, transpose, sub, identity}
use Rattle.algebra.specs.Inverse.{inv}
use Rattle.algebra.proofs.Matrices.{Shape, shape-mul, shape-add}
use Rattle.algebra.proofs.Vectors.{length-vec_add, length-vec_sub}
use Rattle.filtering.specs.Filter.{Motion, Sensor, Estimate, predicted_state, propagated, innovation, gain, corrected_state, corrected_covariance}
use Rattle.filtering.specs.Linear.{correction, update}

pub shape-propagated : (r n : ℕ) (A P Q : Matrix) → Shape r r (propagated r n A P Q)
unfolding propagated
shape-propagated r n A P Q = shape-add r r (mul r n r (mul r n n A P) (transpose r n A)) Q

pub shape-gain : (n m : ℕ) (P H W : Matrix) → Shape n m (gain n m P H W)
unfolding gain
shape-gain n m P H W = shape-mul n m m (mul n n m P (transpose m n H)) W

pub shape-corrected_covariance : (n m : ℕ) (K H P : Matrix) → Shape n n (corrected_covariance n m K H P)
unfolding corrected_covariance
shape-corrected_covariance n m K H P = shape-mul n n n (sub n n (identity n) (mul n m n K H)) P

pub length-predicted_state : (M : Motion) (u x : Vector) → length (predicted_state M u x) ≡ M.n
unfolding predicted_state
length-predicted_state M u x = length-vec_add M.n _ _

pub length-innovation : (m n : ℕ) (H : Matrix) (x z : Vector) → length (innovation m n H x z) ≡ m
unfolding innovation
length-innovation m n H x z = length-vec_sub m z _

pub length-corrected_state : (n m : ℕ) (K : Matrix) (y x : Vector) → length (corrected_state n m K y x) ≡ n
unfolding corrected_state
length-corrected_state n m K y x = length-vec_add n x _

-- an estimate of n states: n numbers, and n rows of n
pub record Sized (n : ℕ) (e : Estimate) : Type 0 where
  pub state : length e.state ≡ n
  pub covariance : Shape n n e.covariance

-- m numbers are told and an estimate of n states is left, or nothing changes
pub data Way (n m : ℕ) : Outcome Estimate Vector → Type 0 where
  stopped : (k : Refusal) → Way n m (record { told = Err k; left = unchanged })
  went : (y : Vector) (e : Estimate) → length y ≡ m → Sized n e → Way n m (done y e)

pub way : (Y : Sensor Matrix) (z : Vector) (e : Estimate) → Way Y.n Y.m (update Y z e)
unfolding update correction
way Y z e = go (inv Y.m (propagated Y.m Y.n Y.h e.covariance Y.r))
  where
    go : (a : Answer Matrix) → Way Y.n Y.m (a else_leave unchanged then correction Y z e)
    go (Err k) = stopped k
    go (Ok W) = went _ _ (length-innovation Y.m Y.n Y.h e.state z) (record { state = length-corrected_state Y.n Y.m _ _ _; covariance = shape-corrected_covariance Y.n Y.m _ _ _ })
