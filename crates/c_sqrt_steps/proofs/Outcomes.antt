-- The sizes of what the square-root filter's steps leave. Assumes nothing.
use mathlib.Core.Path.{◌≡◌, refl, sym, ap, subst}
use Prim.Native.Nat.{ℕ, zero, suc}
use Rattle.std.specs.Prelude.{Ok, Err}
use Rattle.answer.specs.Answer.{Answer}
use Rattle.answer.specs.Outcome.{Outcome, Left, unchanged, this, final, done, later, onward, ◌else_leave◌then◌}
use Rattle.algebra.specs.Matrix.{Vector, Matrix, at, row}
use Rattle.algebra.specs.Cholesky.{cholesky}
use Rattle.algebra.proofs.Matrices.{Shape}
use Rattle.algebra.proofs.Factors.{shape-cholesky}
use Rattle.filtering.specs.Filter.{Motion, Sensor, predicted_state, predicted_covariance}
use Rattle.filtering.specs.SquareRoot.{Factored, factored, covariance, predict, component, components, update}
use Rattle.filtering.proofs.Shapes.{length-predicted_state}
use Rattle.sqrt_steps.proofs.Components.{Sized, Way, stopped, failed, went, way, component-after}

-- what is left: all unchanged, or a state and a factor of n states
pub data Kept (n : ℕ) : Left Factored → Type 0 where
  none : Kept n unchanged
  some : (f : Factored) → Sized n f → Kept n (this f)

kept-later : {n : ℕ} {a b : Left Factored} → Kept n a → Kept n b → Kept n (later a b)
kept-later a none = a
kept-later a (some f s) = some f s

shape-final : {n : ℕ} (f : Factored) {a : Left Factored} → Shape n n f.factor → Kept n a → Shape n n (final f a).factor
shape-final f F none = F
shape-final f F (some g s) = s.factor

kept-way : {n : ℕ} {o : Outcome Factored Vector} → Way n o → Kept n o.left
kept-way (stopped k) = none
kept-way (failed k f s) = some f s
kept-way (went e f s) = some f s

-- ---- an update: the first k components
module _ (Y : Sensor Vector) (z : Vector) (f : Factored) (F : Shape Y.n Y.n f.factor) where
  kept : (k : ℕ) → Kept Y.n (components Y k z f).left
  unfolding components
  kept zero = none
  kept (suc k) = go (components Y k z f).told (kept k)
    where
      next : Factored → Vector → Outcome Factored Vector
      next g y = component Y.n (row Y.h k) (at Y.r k) (at z k) g y

      one : (g : Factored) (y : Vector) → Shape Y.n Y.n g.factor → Kept Y.n (next g y).left
      one g y G =
          subst (Kept Y.n) (sym (ap (λ (o : Outcome Factored Vector). o.left) (component-after Y.n (row Y.h k) (at Y.r k) (at z k) g y)))
          (kept-way (way Y.n (row Y.h k) (at Y.r k) (at z k) g G))

      go : (t : Answer Vector) {l : Left Factored} → Kept Y.n l → Kept Y.n (onward f (record { told = t; left = l }) next).left
      go (Err j) s = s
      go (Ok y) s = kept-later s (one _ y (shape-final f F s))

  pub update-kept : Kept Y.n (update Y z f).left
  unfolding update
  update-kept = kept Y.m

-- ---- a prediction
pub predict-kept : (M : Motion) (u : Vector) (f : Factored) → Shape M.n M.n f.factor → Kept M.n (predict M u f).left
unfolding predict
predict-kept M u f F = go (cholesky M.n (predicted_covariance M (covariance M.n f))) (λ L e. shape-cholesky M.n _ L e)
  where
    x : Vector
    x = predicted_state M u f.state

    sized : (L : Matrix) → Shape M.n M.n L → Sized M.n (factored x L)
    sized L h = record { state = length-predicted_state M u f.state; factor = h }

    go : (a : Answer Matrix) → ((L : Matrix) → a ≡ Ok L → Shape M.n M.n L) → Kept M.n (a else_leave (this (factored x f.factor)) then λ L. done {R = Unit {0}} tt (factored x L)).left
    go (Err k) h = some _ (sized f.factor F)
    go (Ok L) h = some _ (sized L (h L refl))
