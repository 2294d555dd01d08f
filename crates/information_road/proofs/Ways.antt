-- The ways out of the steps of one road, by what the inversions answer. Assumes nothing.
use mathlib.Core.Path.{◌≡◌, sym, ap, ◌∙◌}
use mathlib.Core.List.{[], ◌∷◌}
use lib.Ieee.{Float}
use Rattle.std.specs.Prelude.{Ok, Err}
use Rattle.answer.specs.declared.Refusal.{Refusal}
use Rattle.answer.specs.Answer.{Answer, mapped}
use Rattle.answer.specs.Outcome.{this, done, final, into}
use Rattle.answer.proofs.Answers.{differ, same_answer, mapped-refused}
use Rattle.scalar.specs.Number.{◌⊕◌, ◌⊖◌, ◌⊗◌, +0}
use Rattle.algebra.specs.Matrix.{Vector, Matrix, at, sum_from, matvec, vec_sub}
use Rattle.algebra.specs.Inverse.{inv}
use Rattle.filtering.specs.Filter.{estimate, predicted_state, predicted_covariance, innovation}
use Rattle.filtering.specs.Linear.{predict as linear}
use Rattle.filtering.specs.Information.{Information, information, of_estimate, covariance, state, predict, informed}
use Rattle.road.specs.declared.Two.{Two}
use Rattle.road.specs.declared.Pair.{Pair}
use Rattle.road.specs.declared.Motion.{Motion}
use Rattle.road.specs.declared.Sensor.{Sensor}
use Rattle.road.specs.Road.{matrix_of, estimate_of, motion_of, sensor_of}
use Rattle.information_steps.specs.Step.{update_by}
use Rattle.information_steps.proofs.Ways.{moved, predict_by}
use Rattle.information_road.specs.Road.{information_of, updated_of}

-- ---- of an estimate e: r is its inverted covariance
module _ (e : Pair) where
  abbrev of : Answer Matrix → Answer Information
  of a = mapped (λ W. information 2 W (estimate_of e).state) a

  module _ {r : Answer Two} (er : mapped matrix_of r ≡ inv 2 (matrix_of e.p)) where
    pub made : {w : Two} → r ≡ Ok w → Ok (information 2 (matrix_of w) (estimate_of e).state) ≡ of_estimate 2 (estimate_of e)
    unfolding of_estimate
    made d = ap of (sym (ap (mapped matrix_of) d) ∙ er)

    pub not_made : {k : Refusal} {p : Answer Pair} → r ≡ Err k → p ≡ Err k → mapped information_of p ≡ of_estimate 2 (estimate_of e)
    unfolding of_estimate
    not_made d q = ap (mapped information_of) q ∙ ap of (sym (ap (mapped matrix_of) d) ∙ er)

-- what was told says what the inversion of P answered, and what it is
module _ (x : Vector) (P : Matrix) where
  pub answered_is : {l : Information} → Ok l ≡ of_estimate 2 (estimate x P) → inv 2 P ≡ Ok l.matrix
  unfolding of_estimate
  answered_is {l} e = go (inv 2 P) e
    where
      go : (a : Answer Matrix) → Ok l ≡ mapped (λ W. information 2 W x) a → a ≡ Ok l.matrix
      go (Err k) q = absurd (differ (sym q))
      go (Ok W) q = λ t. Ok (sym (same_answer q) t).matrix

  pub vector_is : {l : Information} → Ok l ≡ of_estimate 2 (estimate x P) → l.vector ≡ matvec 2 2 l.matrix x
  unfolding of_estimate
  vector_is {l} e = go (inv 2 P) e
    where
      go : (a : Answer Matrix) → Ok l ≡ mapped (λ W. information 2 W x) a → l.vector ≡ matvec 2 2 l.matrix x
      go (Err k) q = absurd (differ (sym q))
      go (Ok W) q = (λ t. (same_answer q t).vector) ∙ λ t. matvec 2 2 (sym (same_answer q) t).matrix x

  pub refused_is : {k : Refusal} → Err k ≡ of_estimate 2 (estimate x P) → inv 2 P ≡ Err k
  unfolding of_estimate
  refused_is {k} e = mapped-refused (λ W. information 2 W x) (inv 2 P) k (sym e)

-- ---- r is the estimate of o, or the other way, in a pair
module _ (o : Pair) {r : Answer Pair} (er : mapped information_of r ≡ of_estimate 2 (estimate_of o)) where
  pub as_pair : {b : Pair} → r ≡ Ok b → Ok (information_of b) ≡ of_estimate 2 (estimate_of o)
  as_pair d = sym (ap (mapped information_of) d) ∙ er

  pub as_none : {k : Refusal} → r ≡ Err k → Err k ≡ of_estimate 2 (estimate_of o)
  as_none d = sym (ap (mapped information_of) d) ∙ er

  -- ---- a prediction
  module _ (f : Motion) (u : Float) where
    pub predicted : {b e : Pair} (z : Answer Pair) → r ≡ Ok b → done tt (estimate_of e) ≡ linear (motion_of f) (u ∷ []) (estimate_of b)
        → mapped information_of z ≡ of_estimate 2 (estimate_of e) → into (mapped information_of z) ≡ predict (motion_of f) (u ∷ []) (information_of o)
    unfolding linear
    predicted {b} {e} z d le g =
        let P = matrix_of b.p in
        let x = vector_is (estimate_of o).state (matrix_of o.p) (as_pair d) in
        let is : estimate_of e ≡ moved (motion_of f) (u ∷ []) (information_of o) P =
        (λ t. final (estimate_of e) (le t).left) ∙ λ t. estimate (predicted_state (motion_of f) (u ∷ []) (x t)) (predicted_covariance (motion_of f) P) in
        ap into (g ∙ ap (of_estimate 2) is)
        ∙ sym (predict_by (motion_of f) (u ∷ []) (information_of o) (answered_is (estimate_of o).state (matrix_of o.p) (as_pair d)))

    pub not_predicted : {k : Refusal} {z : Answer Pair} → r ≡ Err k → z ≡ Err k → into (mapped information_of z) ≡ predict (motion_of f) (u ∷ []) (information_of o)
    not_predicted d p =
        ap (λ (z : Answer Pair). into (mapped information_of z)) p
        ∙ sym (predict_by (motion_of f) (u ∷ []) (information_of o) (refused_is (estimate_of o).state (matrix_of o.p) (as_none d)))

-- ---- an update: n has what the addition made, and r is the estimate of it
module _ (f : Sensor) (w z : Float) (o : Pair) where
  abbrev outcome : Answer Float × Information
  outcome = updated_of (information_of o) (update_by (sensor_of f) (z ∷ []) (information_of o) ((w ∷ []) ∷ []))

  -- by what the inversion of the matrix answers
  abbrev by : Information → Answer Matrix → Answer Float × Information
  by l a = updated_of (information_of o) (record { told = mapped (λ x. innovation 1 2 (sensor_of f).h x (z ∷ [])) (mapped (λ P. matvec 2 2 P l.vector) a); left = this l })

  -- the innovation of the estimate that was told
  abbrev pub innovated : Answer Pair → Answer Float
  innovated r = mapped (λ e. z ⊖ (+0 ⊕ f.h0 ⊗ e.x0 ⊕ f.h1 ⊗ e.x1)) r

  pub updated : (n : Pair) (r : Answer Pair) → information_of n ≡ informed 2 1 (sensor_of f).h ((w ∷ []) ∷ []) (z ∷ []) (information_of o)
      → mapped information_of r ≡ of_estimate 2 (estimate_of n) → (innovated r, information_of n) ≡ outcome
  unfolding innovation vec_sub matvec sum_from state covariance
  updated n (Ok e) en er =
      let x = vector_is (estimate_of n).state (matrix_of n.p) er in
      (λ t. (Ok (z ⊖ (+0 ⊕ f.h0 ⊗ at (x t) 0 ⊕ f.h1 ⊗ at (x t) 1)), information_of n))
      ∙ sym (ap (by (information_of n)) (answered_is (estimate_of n).state (matrix_of n.p) er))
      ∙ λ t. by (en t) (inv 2 (en t).matrix)
  updated n (Err k) en er = sym (ap (by (information_of n)) (refused_is (estimate_of n).state (matrix_of n.p) er)) ∙ λ t. by (en t) (inv 2 (en t).matrix)
