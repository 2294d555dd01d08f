-- The two ways out of an update, by what the inversion answers. Assumes nothing.
use mathlib.Core.Path.{◌≡◌, sym, ap, ap₂, ◌∙◌}
use mathlib.Core.List.{List}
use lib.Ieee.{Float}
use Rattle.std.specs.Prelude.{Ok, Err}
use Rattle.answer.specs.declared.Refusal.{Refusal}
use Rattle.answer.specs.Answer.{Answer}
use Rattle.answer.specs.Outcome.{Outcome, unchanged, ◌else_leave◌then◌}
use Rattle.algebra.specs.Matrix.{Vector, Matrix, matvec}
use Rattle.algebra.specs.Array.{pad_row, pad}
use Rattle.matrix.specs.Result.{as_matrix}
use Rattle.sizes.specs.declared.Size.{Size}
use Rattle.sizes.specs.Size.{count, front, part}
use Rattle.algebra.proofs.Arrays.{used-pad, cut-pad_row}
use Rattle.algebra.proofs.Vectors.{length-vec_sub}
use Rattle.algebra.specs.Inverse.{inv}
use Rattle.filtering.specs.Filter.{Estimate, propagated, innovation, gain, corrected_state, corrected_covariance}
use Rattle.filtering.specs.Linear.{correction, update}
use Rattle.steps.specs.Step.{Rows, sensor_rows, estimate_rows, updated_rows}
use Rattle.filtering.proofs.Shapes.{shape-propagated, shape-gain}

-- x, p, h, r and z are the arrays of a state, its covariance, the measurement matrix, its noise and the measurement
module _ (n m : Size) (x : List Float) (p h r : Rows) (z : List Float) where
  abbrev X : Vector
  X = front n x

  abbrev P : Matrix
  P = part n n p

  abbrev H : Matrix
  H = part m n h

  -- the innovation covariance
  abbrev pub S : Matrix
  S = propagated (count m) (count n) H P (part m m r)

  abbrev pub outcome : Outcome Estimate Vector
  outcome = update (sensor_rows n m h r) (front m z) (estimate_rows n x p)

  -- what an update makes of the inverted innovation covariance
  abbrev of : Answer Matrix → Answer (List Float) × (List Float × Rows)
  of a = updated_rows x p (a else_leave unchanged then correction (sensor_rows n m h r) (front m z) (estimate_rows n x p))

  -- the part of the array s that was made of it
  pub whole : {s : Rows} → s ≡ pad S → part m m s ≡ S
  whole e = ap (part m m) e ∙ used-pad (count m) (count m) S (shape-propagated (count m) (count n) H P (part m m r))

  pub inversion : {s : Rows} {w : Answer Rows} → s ≡ pad S → w ≡ as_matrix (inv (count m) (part m m s)) → w ≡ as_matrix (inv (count m) S)
  inversion e f = f ∙ ap (λ (A : Matrix). as_matrix (inv (count m) A)) (whole e)

  pub when_refused : {j : Refusal} → inv (count m) S ≡ Err j → (Err j, (x, p)) ≡ updated_rows x p outcome
  unfolding update
  when_refused q = sym (ap of q)

  pub when_answered : {W : Matrix} {y x' : List Float} {k p' : Rows} → inv (count m) S ≡ Ok W
      → y ≡ pad_row (innovation (count m) (count n) H X (front m z))
      → k ≡ pad (gain (count n) (count m) P H W)
      → x' ≡ pad_row (corrected_state (count n) (count m) (part n m k) (front m y) X)
      → p' ≡ pad (corrected_covariance (count n) (count m) (part n m k) H P)
      → (Ok y, (x', p')) ≡ updated_rows x p outcome
  unfolding update correction innovation
  when_answered {W} {y} {x'} {k} {p'} q ey ek ex ep =
      let Y = innovation (count m) (count n) H X (front m z) in
      let K = gain (count n) (count m) P H W in
      let isK : part n m k ≡ K = ap (part n m) ek ∙ used-pad (count n) (count m) K (shape-gain (count n) (count m) P H W) in
      let isY : front m y ≡ Y = ap (front m) ey ∙ cut-pad_row (count m) Y (length-vec_sub (count m) (front m z) (matvec (count m) (count n) H X)) in
      let isX : x' ≡ pad_row (corrected_state (count n) (count m) K Y X) = ex ∙ ap₂ (λ (A : Matrix) (u : Vector). pad_row (corrected_state (count n) (count m) A u X)) isK isY in
      let isP : p' ≡ pad (corrected_covariance (count n) (count m) K H P) = ep ∙ ap (λ (A : Matrix). pad (corrected_covariance (count n) (count m) A H P)) isK in
      (λ i. (Ok (ey i), (isX i, isP i))) ∙ sym (ap of q)
