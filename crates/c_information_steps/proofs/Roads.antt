-- One road in a slice of 19 numbers: a step by its numbers is the step on the slice. Assumes nothing.
use mathlib.Core.Path.{◌≡◌, sym, ap, ap₂, ◌∙◌}
use mathlib.Core.List.{List, [], ◌∷◌}
use mathlib.Core.Bool.{Bool}
use Prim.Native.Nat.{ℕ}
use lib.ListN.{length, set}
use lib.Ieee.{Float}
use Rattle.std.specs.Prelude.{Ok, Err}
use Rattle.answer.specs.declared.Refusal.{Refusal}
use Rattle.answer.specs.Answer.{Answer, mapped}
use Rattle.answer.specs.Outcome.{Outcome, unchanged, this, into, if_fitting, ◌else_leave◌then◌}
use Rattle.answer.proofs.Answers.{differ, same_answer, same-refusal}
use Rattle.algebra.specs.Matrix.{Vector, Matrix, at, one_by_one}
use Rattle.matrix.specs.Result.{as_one}
use Rattle.small_inverse.specs.Two.{inv_number}
use Rattle.small_inverse.proofs.Two.{number_is}
use Rattle.filtering.specs.Filter.{Sensor, innovation}
use Rattle.filtering.specs.Information.{Information, informed, state, predict, update}
use Rattle.filtering.proofs.Shapes.{length-innovation}
use Rattle.layout.proofs.Rows.{whole-vector}
use Rattle.road.specs.declared.Pair.{Pair}
use Rattle.road.specs.declared.Road.{Road}
use Rattle.road.specs.Road.{Filter, estimate_of, road_of, sensor_of}
use Rattle.information_steps.specs.Step.{update_by}
use Rattle.information_steps.proofs.Ways.{update_is}
use Rattle.information_road.specs.Road.{information_of, updated_of}
use Rattle.c_copies.specs.Filter.{motion_at, sensor_at, road_in, with_estimate}
use Rattle.c_roads.proofs.Roads.{step-passed, with-passed, one_place}
use Rattle.c_roads.proofs.Roads as Linear
use Rattle.c_information.specs.Information.{information_at, with_information, stepped_in}
use Rattle.c_information_steps.specs.Steps.{predict_in, outcome_in, update_in}

-- what a filter keeps where a linear one has its estimate
abbrev kept : Filter → Information
kept F = record { matrix = F.start.covariance; vector = F.start.state }

-- ---- a prediction: r is the road as the code has it, and v what is told
module _ {n m i : ℕ} (f u : List Float) (R : Linear.Road n m i (length f) (length u)) where
  abbrev outcome : Outcome Information (Unit {0})
  outcome = predict (motion_at 2 1 1 f) u (information_at 2 1 1 f)

  by_sizes : {z : Answer (Unit {0}) × List Float} → z ≡ stepped_in 2 1 1 f outcome → z ≡ predict_in n m i f u
  by_sizes p =
      p
      ∙ ap (λ (b : Bool). stepped_in 2 1 1 f (if_fitting b outcome)) (sym (step-passed R.long R.one))
      ∙ (λ t. predict_in (sym R.states t) (sym R.measurements t) (sym R.inputs t) f u)

  module _ (r : Road) (read : road_of r ≡ road_in f) {v : Answer Pair}
      (e : into (mapped information_of v) ≡ predict (road_of r).motion (at u 0 ∷ []) (information_of r.pair)) where
    -- by what is told
    told : {w : Answer Pair} → v ≡ w → stepped_in 2 1 1 f (into (mapped information_of w)) ≡ stepped_in 2 1 1 f outcome
    told d =
        let same = e ∙ ap₂ (λ (G : Filter) (w : Vector). predict G.motion w (kept G)) read (whole-vector 1 u R.one) in
        ap (λ (w : Answer Pair). stepped_in 2 1 1 f (into (mapped information_of w))) (sym d) ∙ ap (stepped_in 2 1 1 f) same

    pub predicts : {o : Pair} {g : List Float} → v ≡ Ok o → g ≡ with_estimate 2 1 1 f (estimate_of o) → (Ok tt, g) ≡ predict_in n m i f u
    predicts d p = by_sizes ((λ t. (Ok tt, p t)) ∙ told d)

    pub stops : {k : Refusal} {s : Answer (Unit {0})} → v ≡ Err k → s ≡ Err k → (s, f) ≡ predict_in n m i f u
    stops d q = by_sizes ((λ t. (q t, f)) ∙ told d)

-- ---- an update, by what the inversion of its one noise answers; y held the innovation's place
module _ {n m i : ℕ} (f z y : List Float) (R : Linear.Road n m i (length f) (length z)) (ly : length y ≡ 1) (r : Road) (read : road_of r ≡ road_in f) where
  abbrev S : Sensor Matrix
  S = sensor_of r.sensor

  abbrev Z : Vector
  Z = at z 0 ∷ []

  abbrev O : Information
  O = information_of r.pair

  -- by the sizes, and by what was read
  by_road : {x : Answer (Unit {0}) × (List Float × List Float)} → x ≡ outcome_in 2 1 1 f y (update S Z O) → x ≡ update_in n m i f z y
  by_road p =
      p
      ∙ ap₂ (λ (G : Filter) (w : Vector). outcome_in 2 1 1 f y (update G.sensor w (kept G))) read (whole-vector 1 z R.one)
      ∙ ap (λ (b : Bool). outcome_in 2 1 1 f y (if_fitting b (update (sensor_at 2 1 1 f) z (information_at 2 1 1 f)))) (sym (with-passed R.long R.one ly))
      ∙ (λ t. update_in (sym R.states t) (sym R.measurements t) (sym R.inputs t) f z y)

  by_noise : {a : Answer Float} → inv_number r.sensor.r ≡ a → update S Z O ≡ (mapped one_by_one a else_leave unchanged then update_by S Z O)
  by_noise q = update_is S Z O ∙ ap (λ (a : Answer Matrix). a else_leave unchanged then update_by S Z O) (number_is r.sensor.r ∙ ap (mapped one_by_one) q)

  pub not_updated : {k : Refusal} {s : Answer (Unit {0})} → inv_number r.sensor.r ≡ Err k → s ≡ Err k → (s, (f, y)) ≡ update_in n m i f z y
  not_updated q e = by_road ((λ t. (e t, (f, y))) ∙ sym (ap (outcome_in 2 1 1 f y) (by_noise q)))

  module _ {w : Float} (q : inv_number r.sensor.r ≡ Ok w) {a : Answer Float} {v : Pair}
      (e : (a, information_of v) ≡ updated_of O (update_by S Z O ((w ∷ []) ∷ []))) {g : List Float} (p : g ≡ with_estimate 2 1 1 f (estimate_of v)) where
    abbrev o' : Information
    o' = informed 2 1 S.h (one_by_one w) Z O

    abbrev of : Answer Vector → Answer (Unit {0}) × (List Float × List Float)
    of b = outcome_in 2 1 1 f y (record { told = mapped (λ x. innovation 1 2 S.h x Z) b; left = this o' })

    left : g ≡ with_information 2 1 1 f o'
    left = p ∙ λ t. with_information 2 1 1 f (e t).1

    pub updates : {x : Float} → a ≡ Ok x → (Ok tt, (g, set y 0 x)) ≡ update_in n m i f z y
    updates {x} d = by_road (go (state 2 o') (λ t. (e t).0) ∙ sym (ap (outcome_in 2 1 1 f y) (by_noise q)))
      where
        go : (b : Answer Vector) → a ≡ as_one (mapped (λ x. innovation 1 2 S.h x Z) b) → (Ok tt, (g, set y 0 x)) ≡ of b
        go (Err j) c = absurd (differ (sym c ∙ d))
        go (Ok x') c =
            let told = innovation 1 2 S.h x' Z in
            let is : x ≡ at told 0 = same_answer (sym d ∙ c) in
            let there : set y 0 x ≡ told = one_place y x ly ∙ ap (λ (k : Float). k ∷ []) is ∙ whole-vector 1 told (length-innovation 1 2 S.h x' Z) in
            λ t. (Ok tt, (left t, there t))

    pub refuses : {k : Refusal} {s : Answer (Unit {0})} → a ≡ Err k → s ≡ Err k → (s, (g, y)) ≡ update_in n m i f z y
    refuses {k} d told = by_road ((λ t. (told t, (g, y))) ∙ go (state 2 o') (λ t. (e t).0) ∙ sym (ap (outcome_in 2 1 1 f y) (by_noise q)))
      where
        go : (b : Answer Vector) → a ≡ as_one (mapped (λ x. innovation 1 2 S.h x Z) b) → (Err k, (g, y)) ≡ of b
        go (Err j) c = let same = same-refusal (sym d ∙ c) in λ t. (Err (same t), (left t, y))
        go (Ok x') c = absurd (differ (sym d ∙ c))
