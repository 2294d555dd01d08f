-- The two ways out of a prediction, by what Cholesky answers. Assumes nothing.
use mathlib.Core.Path.{◌≡◌, sym, ap, ◌∙◌}
use mathlib.Core.List.{List, []}
use lib.Ieee.{Float}
use Rattle.std.specs.Prelude.{Ok, Err}
use Rattle.answer.specs.declared.Refusal.{Refusal}
use Rattle.answer.specs.Answer.{Answer}
use Rattle.answer.specs.Outcome.{Outcome, this, done, handed, ◌else_leave◌then◌}
use Rattle.answer.proofs.Answers.{same_answer, same-refusal}
use Rattle.algebra.specs.Matrix.{Vector, Matrix, transpose}
use Rattle.algebra.specs.Array.{pad_row, pad}
use Rattle.algebra.specs.Cholesky.{cholesky}
use Rattle.algebra.proofs.Matrices.{shape-mul}
use Rattle.algebra.proofs.Arrays.{used-pad}
use Rattle.sizes.specs.declared.Size.{Size}
use Rattle.sizes.specs.Size.{count, front, part}
use Rattle.matrix.specs.Result.{as_matrix}
use Rattle.matrix.proofs.Results.{padded_is}
use Rattle.filtering.specs.Filter.{predicted_state, propagated}
use Rattle.filtering.specs.SquareRoot.{Factored, factored, covariance, predict}
use Rattle.filtering.proofs.Shapes.{shape-propagated}
use Rattle.steps.specs.Step.{Rows, motion_rows}
use Rattle.sqrt_steps.specs.Step.{factored_rows, arrays_of}

-- a, b, q, u, x and l are the arrays of a motion, its input, the state and the factor
module _ (n i : Size) (a b q : Rows) (u x : List Float) (l : Rows) where
  abbrev moved : Vector
  moved = predicted_state (motion_rows n i a b q) (front i u) (front n x)

  -- the predicted covariance
  abbrev pub S : Matrix
  S = propagated (count n) (count n) (part n n a) (covariance (count n) (factored_rows n x l)) (part n n q)

  abbrev pub outcome : Outcome Factored (Unit {0})
  outcome = predict (motion_rows n i a b q) (front i u) (factored_rows n x l)

  abbrev by : Answer Matrix → Outcome Factored (Unit {0})
  by o = o else_leave (this (factored moved (part n n l))) then λ L. done tt (factored moved L)

  abbrev of : Answer Matrix → Answer (Unit {0}) × (List Float × Rows)
  of o = handed (λ t. t) arrays_of (x, l) (by o)

  pub factorization : {p s : Rows} {w : Answer Rows} → p ≡ pad (covariance (count n) (factored_rows n [] l))
      → s ≡ pad (propagated (count n) (count n) (part n n a) (part n n p) (part n n q)) → w ≡ as_matrix (cholesky (count n) (part n n s)) → w ≡ as_matrix (cholesky (count n) S)
  unfolding covariance
  factorization ep es ew =
      let isP = ap (part n n) ep ∙ used-pad (count n) (count n) _ (shape-mul (count n) (count n) (count n) (part n n l) (transpose (count n) (count n) (part n n l))) in
      padded_is (cholesky (count n)) (shape-propagated (count n) (count n) (part n n a) _ (part n n q))
      (es ∙ ap (λ (P : Matrix). pad (propagated (count n) (count n) (part n n a) P (part n n q))) isP) ew

  -- w is Cholesky's result
  module _ {x' : List Float} {w : Answer Rows} (ex : x' ≡ pad_row moved) (ew : w ≡ as_matrix (cholesky (count n) S)) where
    pub when_factored : {f : Rows} → w ≡ Ok f → (Ok tt, (x', f)) ≡ handed (λ t. t) arrays_of (x, l) outcome
    unfolding predict
    when_factored {f} q = go (cholesky (count n) S) (sym ew ∙ q)
      where
        go : (o : Answer Matrix) → as_matrix o ≡ Ok f → (Ok tt, (x', f)) ≡ of o
        go (Err j) e = cc
        go (Ok L) e = let d : pad L ≡ f = same_answer e in λ k. (Ok tt, (ex k, sym d k))

    pub when_unfactored : {j : Refusal} {l' : Rows} → w ≡ Err j → l' ≡ pad (part n n l) → (Err j, (x', l')) ≡ handed (λ t. t) arrays_of (x, l) outcome
    unfolding predict
    when_unfactored {j} {l'} q el = go (cholesky (count n) S) (sym ew ∙ q)
      where
        go : (o : Answer Matrix) → as_matrix o ≡ Err j → (Err j, (x', l')) ≡ of o
        go (Err i) e = let d : i ≡ j = same-refusal e in λ k. (Err (sym d k), (ex k, el k))
        go (Ok L) e = cc

-- the way out without a factor
pub ruleset unfactored = (factorization, when_unfactored)
