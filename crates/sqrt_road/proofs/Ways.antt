-- The ways out of the steps of one road, by what the factor, the variance and the downdate answer. Assumes nothing.
use mathlib.Core.Path.{◌≡◌, refl, sym, ap, ◌∙◌}
use mathlib.Core.List.{[], ◌∷◌}
use lib.Ieee.{Float}
use Rattle.root.specs.Root.{root}
use Rattle.scalar.specs.Number.{◌⊕◌, ◌⊖◌, ◌⊗◌, ◌⊘◌, +0}
use Rattle.std.specs.Prelude.{Ok, Err}
use Rattle.answer.specs.declared.Refusal.{Refusal}
use Rattle.answer.specs.Answer.{Answer, mapped}
use Rattle.answer.specs.Outcome.{Outcome, Left, unchanged, this, final, only, done, onward, standing, ◌else_leave◌then◌}
use Rattle.algebra.specs.Matrix.{Vector, Matrix, dot, sum_from, matvec, transpose, vec_add, vec_scale}
use Rattle.algebra.specs.Cholesky.{cholesky}
use Rattle.matrix.specs.Result.{as_one}
use Rattle.filtering.specs.Filter.{Motion, predicted_state, predicted_covariance}
use Rattle.filtering.specs.Linear.{predict as linear}
use Rattle.filtering.specs.SquareRoot.{Factored, factored, covariance, predict, rotated, variance, vec_over, component, components, update}
use Rattle.road.specs.declared.Two.{Two}
use Rattle.road.specs.declared.Pair.{Pair}
use Rattle.road.specs.declared.Motion.{Motion as RoadMotion}
use Rattle.road.specs.declared.Sensor.{Sensor as RoadSensor}
use Rattle.road.specs.Road.{matrix_of, estimate_of, motion_of}
use Rattle.sqrt_steps.specs.Step.{ended}
use Rattle.sqrt_road.specs.Road.{factored_of, channel_of, turned_of, stepped_of, updated_of}

-- ---- a prediction: c is the covariance of g, e the linear filter's step from there, and o the factor of its covariance
module _ (m : RoadMotion) (u : Float) (g : Pair) where
  abbrev M : Motion
  M = motion_of m

  abbrev by : Vector → Answer Matrix → Outcome Factored (Unit {0})
  by x o = o else_leave (this (factored x (matrix_of g.p))) then λ L. done tt (factored x L)

  module _ (c : Two) (e : Pair) {o : Answer Two} (ep : matrix_of c ≡ covariance 2 (factored [] (matrix_of g.p)))
      (el : done tt (estimate_of e) ≡ linear M (u ∷ []) (estimate_of (record { x0 = g.x0; x1 = g.x1; p = c }))) (eo : mapped matrix_of o ≡ cholesky 2 (matrix_of e.p)) where
    predicted_by : {w : Answer Two} → o ≡ w → stepped_of (factored_of g) (by (estimate_of e).state (mapped matrix_of w)) ≡ stepped_of (factored_of g) (predict M (u ∷ []) (factored_of g))
    unfolding linear predict covariance
    predicted_by p =
        let X : (estimate_of e).state ≡ predicted_state M (u ∷ []) (factored_of g).state = λ t. (final (estimate_of e) (el t).left).state in
        let P : matrix_of e.p ≡ predicted_covariance M (covariance 2 (factored_of g)) = (λ t. (final (estimate_of e) (el t).left).covariance) ∙ ap (predicted_covariance M) ep in
        ap (λ (w : Answer Matrix). stepped_of (factored_of g) (by (estimate_of e).state w)) (ap (mapped matrix_of) (sym p) ∙ eo)
        ∙ λ t. stepped_of (factored_of g) (by (X t) (cholesky 2 (P t)))

    pub predicted : {p : Two} → o ≡ Ok p → (Ok tt, factored (estimate_of e).state (matrix_of p)) ≡ stepped_of (factored_of g) (predict M (u ∷ []) (factored_of g))
    predicted d = predicted_by d

    pub unpredicted : {k : Refusal} → o ≡ Err k → (Err k, factored (estimate_of e).state (matrix_of g.p)) ≡ stepped_of (factored_of g) (predict M (u ∷ []) (factored_of g))
    unpredicted d = predicted_by d

-- ---- an update
told_is : (y : Float) (t : Answer Vector) → mapped {A = Unit {0}} (λ u. y) (ended t) ≡ as_one (mapped (λ v. y ∷ []) t)
told_is y (Err k) = refl
told_is y (Ok v) = refl

left_is : (L : Matrix) (m : Left Matrix) → standing (λ A. A) L m ≡ final L m
left_is L unchanged = refl
left_is L (this A) = refl

module _ (k : RoadSensor) (z : Float) (g : Pair) where
  abbrev f : Factored
  f = factored_of g

  abbrev l : Two
  l = g.p

  abbrev y : Float
  y = z ⊖ (+0 ⊕ k.h0 ⊗ g.x0 ⊕ k.h1 ⊗ g.x1)

  abbrev t0 : Float
  t0 = +0 ⊕ l.a ⊗ k.h0 ⊕ l.c ⊗ k.h1

  abbrev t1 : Float
  t1 = +0 ⊕ l.b ⊗ k.h0 ⊕ l.d ⊗ k.h1

  abbrev pub sum : Float
  sum = +0 ⊕ t0 ⊗ t0 ⊕ t1 ⊗ t1 ⊕ k.r ⊗ k.r

  abbrev g0 : Float
  g0 = +0 ⊕ l.a ⊗ t0 ⊕ l.b ⊗ t1

  abbrev g1 : Float
  g1 = +0 ⊕ l.c ⊗ t0 ⊕ l.d ⊗ t1

  abbrev X : Float → Vector
  X s = (g.x0 ⊕ g0 ⊘ s ⊗ y) ∷ (g.x1 ⊕ g1 ⊘ s ⊗ y) ∷ []

  abbrev W : Float → Outcome Matrix Vector
  W w = rotated 2 2 (matrix_of l) ((g0 ⊘ w) ∷ (g1 ⊘ w) ∷ [])

  abbrev one : Float → Outcome Factored Vector
  one s = record { told = mapped (λ v. y ∷ []) (W (root s)).told; left = this (factored (X s) (final (matrix_of l) (W (root s)).left)) }

  abbrev after : Answer Float → Outcome Factored Vector
  after a = onward {A = Vector} f (only []) (λ _ _. a else_leave unchanged then one)

  update_is : update (channel_of k) (z ∷ []) f ≡ after (variance sum)
  unfolding update components component dot sum_from matvec transpose vec_over vec_add vec_scale
  update_is = refl

  pub not_updated : {j : Refusal} → variance sum ≡ Err j → (Err j, f) ≡ updated_of f (update (channel_of k) (z ∷ []) f)
  not_updated q = sym (ap (updated_of f) (update_is ∙ ap after q))

  pub updated : {s w : Float} {a : Answer (Unit {0})} {F : Matrix} {v : Answer Float} → variance sum ≡ Ok s → w ≡ root s → (a, F) ≡ turned_of (matrix_of l) (W w) → v ≡ mapped (λ u. y) a
      → (v, factored (X s) F) ≡ updated_of f (update (channel_of k) (z ∷ []) f)
  updated {s} {w} {a} {F} q ew e d =
      let o = W (root s) in
      let is : (a, F) ≡ turned_of (matrix_of l) o = e ∙ ap (λ (x : Float). turned_of (matrix_of l) (W x)) ew in
      (λ t. (d t, factored (X s) F))
      ∙ (λ t. (mapped (λ u. y) (is t).0, factored (X s) (is t).1))
      ∙ (λ t. (told_is y o.told t, factored (X s) (left_is (matrix_of l) o.left t)))
      ∙ sym (ap (updated_of f) (update_is ∙ ap after q))
