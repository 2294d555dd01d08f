-- One road in a slice of 19 numbers: a step by its numbers is the step on the slice. Assumes nothing.
use mathlib.Core.Path.{◌≡◌, refl, sym, ap, ap₂, ◌∙◌}
use mathlib.Core.List.{List, [], ◌∷◌, ◌++◌}
use mathlib.Core.Bool.{Bool, true, ◌&&◌}
use Prim.Native.Nat.{ℕ}
use native.Mathlib.Omega.{arith}
use lib.ListN.{length, set, take, drop}
use lib.Seq.{take-add, drop-drop}
use lib.Ieee.{Float}
use borrow.Author.Tests.{eq-eqb}
use Rattle.std.specs.Prelude.{Ok, Err}
use Rattle.answer.specs.declared.Refusal.{Refusal}
use Rattle.answer.specs.Answer.{Answer, mapped}
use Rattle.answer.specs.Outcome.{Outcome, Left, unchanged, this, if_fitting, standing}
use Rattle.answer.proofs.Answers.{differ, same_answer, same-refusal}
use Rattle.algebra.specs.Matrix.{Vector, at, row}
use Rattle.sizes.specs.Size.{sized}
use Rattle.matrix.specs.Result.{as_one}
use Rattle.filtering.specs.Filter.{Sensor}
use Rattle.filtering.specs.SquareRoot.{Factored, factored, predict, update}
use Rattle.layout.specs.Layout.{placed}
use Rattle.layout.proofs.Rows.{whole-vector, vector-numbers, matrix-numbers}
use Rattle.steps.specs.Step.{well_sized}
use Rattle.road.specs.declared.Pair.{Pair}
use Rattle.road.specs.declared.Road.{Road}
use Rattle.road.specs.Road.{Filter, estimate_of, road_of}
use Rattle.sqrt_steps.proofs.Updates.{told-length}
use Rattle.sqrt_road.specs.Road.{factored_of, channel_of, stepped_of, updated_of}
use Rattle.c_copies.specs.Filter.{is_filter_by, is_step_by, is_step_with_by, road_in, with_estimate, told_in}
use Rattle.c_roads.proofs.Roads.{one_place}
use Rattle.c_roads.proofs.Roads as Linear
use Rattle.c_sqrt_kalman.specs.Root.{is_step, is_step_with, factored_at, with_factored, stepped_in}
use Rattle.c_sqrt_steps.specs.Step.{motion_at, channel_at, predict_in, outcome_in, update_in}
use Rattle.c_sqrt_steps.proofs.Steps.{placed-again}

-- ---- what the filter of one road holds where a linear one has its estimate and its noise
abbrev kept : Filter → Factored
kept F = factored F.start.state F.start.covariance

abbrev channel : Filter → Sensor Vector
channel F = record { n = F.sensor.n; m = F.sensor.m; h = F.sensor.h; r = row F.sensor.r 0 }

-- the tests of the sizes are passed
step-passed : {k j : ℕ} → k ≡ 19 → j ≡ 1 → is_step 2 1 1 k 1 j ≡ true
unfolding is_step_by is_filter_by well_sized sized
step-passed d e = ap₂ (λ (k j : ℕ). is_step 2 1 1 k 1 j) d e

with-passed : {k j l : ℕ} → k ≡ 19 → j ≡ 1 → l ≡ 1 → is_step_with 2 1 1 k 1 j 1 l ≡ true
unfolding is_step_with_by
with-passed {k} {j} {l} d e g = λ t. step-passed d e t && eq-eqb l 1 g t

-- what stands in a slice, put there again
again : (f : List Float) → length f ≡ 19 → with_factored 2 1 1 f (factored_at 2 1 1 f) ≡ f
again f l =
    ap₂ (λ (v w : List Float). placed 13 (v ++ w) f) (vector-numbers 2 13 f (omega (arith, l))) (matrix-numbers 2 2 15 f (omega (arith, l)) ∙ ap (take 4) (sym (drop-drop 2 13 f)))
    ∙ ap (λ (v : List Float). placed 13 v f) (sym (take-add 2 4 (drop 13 f)))
    ∙ placed-again 13 6 f (omega (arith, l))

-- the pair that is put is what is left
put : (f : List Float) → length f ≡ 19 → (a : Left Factored) {v : Pair} {g : List Float} → factored_of v ≡ standing (λ h. h) (factored_at 2 1 1 f) a → g ≡ with_estimate 2 1 1 f (estimate_of v)
    → g ≡ standing (with_factored 2 1 1 f) f a
put f l unchanged e p = p ∙ (λ t. with_factored 2 1 1 f (e t)) ∙ again f l
put f l (this h) e p = p ∙ λ t. with_factored 2 1 1 f (e t)

-- ---- a prediction: r is the road as the code has it, and v the pair that is left
pub predicts : {n m i : ℕ} (f u : List Float) (R : Linear.Road n m i (length f) (length u)) (r : Road) → road_of r ≡ road_in f → {s : Answer (Unit {0})} {v : Pair} {g : List Float}
    → (s, factored_of v) ≡ stepped_of (factored_of r.pair) (predict (road_of r).motion (at u 0 ∷ []) (factored_of r.pair))
    → g ≡ with_estimate 2 1 1 f (estimate_of v) → (s, g) ≡ predict_in n m i f u
predicts f u R r read {s} {v} {g} e p =
    let o = predict (motion_at 2 1 1 f) u (factored_at 2 1 1 f) in
    let same : (s, factored_of v) ≡ stepped_of (factored_at 2 1 1 f) o =
    e ∙ ap₂ (λ (G : Filter) (w : Vector). stepped_of (kept G) (predict G.motion w (kept G))) read (whole-vector 1 u R.one) in
    (λ t. ((same t).0, put f R.long o.left (λ t. (same t).1) p t))
    ∙ ap (λ (b : Bool). stepped_in 2 1 1 f (if_fitting b o)) (sym (step-passed R.long R.one))
    ∙ (λ t. predict_in (sym R.states t) (sym R.measurements t) (sym R.inputs t) f u)

-- ---- an update, which tells a; y held the innovation's place
module _ {n m i : ℕ} (f z y : List Float) (R : Linear.Road n m i (length f) (length z)) (ly : length y ≡ 1) (r : Road) (read : road_of r ≡ road_in f) {a : Answer Float} {v : Pair} {g : List Float}
    (e : (a, factored_of v) ≡ updated_of (factored_of r.pair) (update (channel_of r.sensor) (at z 0 ∷ []) (factored_of r.pair))) (p : g ≡ with_estimate 2 1 1 f (estimate_of v)) where
  abbrev outcome : Outcome Factored Vector
  outcome = update (channel_at 2 1 1 f) z (factored_at 2 1 1 f)

  same : (a, factored_of v) ≡ updated_of (factored_at 2 1 1 f) outcome
  same = e ∙ ap₂ (λ (G : Filter) (w : Vector). updated_of (kept G) (update (channel G) w (kept G))) read (whole-vector 1 z R.one)

  slice_is : g ≡ standing (with_factored 2 1 1 f) f outcome.left
  slice_is = put f R.long outcome.left (λ t. (same t).1) p

  by_sizes : {x : Answer (Unit {0}) × (List Float × List Float)} → x ≡ outcome_in 2 1 1 f y outcome → x ≡ update_in n m i f z y
  by_sizes q =
      q
      ∙ ap (λ (b : Bool). outcome_in 2 1 1 f y (if_fitting b outcome)) (sym (with-passed R.long R.one ly))
      ∙ (λ t. update_in (sym R.states t) (sym R.measurements t) (sym R.inputs t) f z y)

  -- what is told and left, where b is told
  abbrev of : Answer Vector → Answer (Unit {0}) × (List Float × List Float)
  of b = (mapped (λ _. tt) b, (standing (with_factored 2 1 1 f) f outcome.left, told_in y b))

  pub updates : {x : Float} → a ≡ Ok x → (Ok tt, (g, set y 0 x)) ≡ update_in n m i f z y
  updates {x} d = by_sizes (go outcome.told (λ c. told-length (channel_at 2 1 1 f) z (factored_at 2 1 1 f) c) (sym d ∙ λ t. (same t).0))
    where
      go : (b : Answer Vector) → ((c : Vector) → b ≡ Ok c → length c ≡ 1) → Ok x ≡ as_one b → (Ok tt, (g, set y 0 x)) ≡ of b
      go (Err j) w q = absurd (differ (sym q))
      go (Ok c) w q =
          let number : x ≡ at c 0 = same_answer q in
          let there : set y 0 x ≡ c = one_place y x ly ∙ ap (λ (k : Float). k ∷ []) number ∙ whole-vector 1 c (w c refl) in
          λ t. (Ok tt, (slice_is t, there t))

  pub refuses : {k : Refusal} → a ≡ Err k → (Err k, (g, y)) ≡ update_in n m i f z y
  refuses {k} d = by_sizes (go outcome.told (sym d ∙ λ t. (same t).0))
    where
      go : (b : Answer Vector) → Err k ≡ as_one b → (Err k, (g, y)) ≡ of b
      go (Err j) q = let same : k ≡ j = same-refusal q in λ t. (Err (same t), (slice_is t, y))
      go (Ok c) q = absurd (differ q)
