-- One road in a slice of 19 numbers: what its test says, and that a step by its numbers is the step on the slice. Assumes nothing.
use mathlib.Core.Path.{◌≡◌, refl, sym, ap, ap₂, ◌∙◌}
use mathlib.Core.List.{List, [], ◌∷◌}
use mathlib.Core.Bool.{Bool, true, cond, ◌&&◌}
use Prim.Native.Nat.{ℕ}
use native.Mathlib.Omega.{arith}
use lib.Dec.{eqb}
use lib.ListN.{length, set}
use lib.Ieee.{Float}
use borrow.Author.Tests.{eqb-true, eq-eqb}
use Rattle.std.specs.Prelude.{Ok, Err}
use Rattle.answer.specs.Answer.{Answer}
use Rattle.answer.specs.Outcome.{Outcome, done, if_fitting}
use Rattle.answer.proofs.Choice.{and_left, and_right}
use Rattle.answer.proofs.Answers.{differ, same_answer, same-refusal}
use Rattle.answer.specs.declared.Refusal.{Refusal}
use Rattle.scalar.specs.Number.{+0}
use Rattle.algebra.specs.Matrix.{Vector, at}
use Rattle.sizes.specs.Size.{sized}
use Rattle.filtering.specs.Filter.{Estimate}
use Rattle.filtering.specs.Linear.{predict, update}
use Rattle.filtering.proofs.Shapes.{Way, stopped, went, way}
use Rattle.layout.specs.Layout.{put_at}
use Rattle.layout.proofs.Rows.{whole-vector}
use Rattle.layout.proofs.Calls.{slice-put}
use Rattle.steps.specs.Step.{well_sized}
use Rattle.road.specs.declared.Pair.{Pair}
use Rattle.road.specs.Road.{Filter, estimate_of, tracker_of, updated_of}
use Rattle.c_copies.specs.Filter.{is_filter_by, is_step_by, is_step_with_by, is_step, is_step_with, is_road, motion_at, sensor_at, estimate_at, road_in, estimate_numbers, with_estimate, predicted_in, predict_in, outcome_in, update_in}

pub record Road (n m i k j : ℕ) : Type 0 where
  pub states : n ≡ 2
  pub measurements : m ≡ 1
  pub inputs : i ≡ 1
  pub long : k ≡ 19
  pub one : j ≡ 1

pub road_of : (n m i k j : ℕ) → is_road n m i k j ≡ true → Road n m i k j
unfolding is_road
road_of n m i k j e =
    let s = and_left _ _ e in
    let l = and_right (eqb n 2 && (eqb m 1 && eqb i 1)) _ e in
    let r = and_right (eqb n 2) _ s in
    record {
      states = eqb-true n 2 (and_left _ _ s);
      measurements = eqb-true m 1 (and_left _ _ r);
      inputs = eqb-true i 1 (and_right (eqb m 1) _ r);
      long = eqb-true k 19 (and_left _ _ l);
      one = eqb-true j 1 (and_right (eqb k 19) _ l);
    }

-- the tests of an update, as the code makes them: of the road, and of the innovation's place
pub record Passed (n m i k j l : ℕ) : Type 0 where
  pub road : Road n m i k j
  pub room : l ≡ 1

pub passed_of : (n m i k j l : ℕ) {t : Bool} → t ≡ is_road n m i k j → t && eqb l 1 ≡ true → Passed n m i k j l
passed_of n m i k j l e q =
    let all = sym (ap (λ (b : Bool). b && eqb l 1) e) ∙ q in
    record { road = road_of n m i k j (and_left _ _ all); room = eqb-true l 1 (and_right (is_road n m i k j) _ all) }

-- what is read of its slice, and put into it
pub road_read : (f : List Float) {F : Filter} → length f ≡ 19 → F ≡ cond (eqb (length f) 19) (road_in f) (tracker_of +0 +0 +0) → F ≡ road_in f
road_read f l e = e ∙ ap (λ (b : Bool). cond b (road_in f) (tracker_of +0 +0 +0)) (eq-eqb (length f) 19 l)

pub pair_put : (f : List Float) {g : List Float} (e : Pair) → length f ≡ 19 → g ≡ put_at 13 (estimate_numbers (estimate_of e)) f → g ≡ with_estimate 2 1 1 f (estimate_of e)
pair_put f e l p = slice-put 13 f (estimate_numbers (estimate_of e)) (omega (arith, l)) p

-- the tests of the sizes are passed
pub step-passed : {k j : ℕ} → k ≡ 19 → j ≡ 1 → is_step 2 1 1 k 1 j ≡ true
unfolding is_step_by is_filter_by well_sized sized
step-passed d e = ap₂ (λ (k j : ℕ). is_step 2 1 1 k 1 j) d e

pub with-passed : {k j l : ℕ} → k ≡ 19 → j ≡ 1 → l ≡ 1 → is_step_with 2 1 1 k 1 j 1 l ≡ true
unfolding is_step_with_by
with-passed {k} {j} {l} d e g = λ t. step-passed d e t && eq-eqb l 1 g t

-- ---- a prediction: F is the filter as the code has it, and e the estimate that it leaves
module _ {n m i : ℕ} (f u : List Float) (R : Road n m i (length f) (length u)) {F : Filter} (read : F ≡ road_in f) where
  pub predicts : {e : Estimate} {g : List Float} → done tt e ≡ predict F.motion (at u 0 ∷ []) F.start → g ≡ with_estimate 2 1 1 f e → (Ok tt, g) ≡ predict_in n m i f u
  predicts {e} {g} s p =
      let o : done tt e ≡ predict (motion_at 2 1 1 f) u (estimate_at 2 1 1 f) =
      s ∙ ap₂ (λ (G : Filter) (v : Vector). predict G.motion v G.start) read (whole-vector 1 u R.one) in
      (λ t. (Ok tt, p t)) ∙ ap (predicted_in 2 1 1 f) o
      ∙ ap (λ (b : Bool). predicted_in 2 1 1 f (if_fitting b (predict (motion_at 2 1 1 f) u (estimate_at 2 1 1 f)))) (sym (step-passed R.long R.one))
      ∙ (λ t. predict_in (sym R.states t) (sym R.measurements t) (sym R.inputs t) f u)

-- ---- an update, which tells a and leaves e; y held the innovation's place
pub one_place : (y : List Float) (x : Float) → length y ≡ 1 → set y 0 x ≡ x ∷ []
one_place [] x l = absurd (omega arith)
one_place (z ∷ []) x l = refl
one_place (z ∷ w ∷ y) x l = absurd (omega arith)

module _ {n m i : ℕ} (f z y : List Float) (R : Road n m i (length f) (length z)) (ly : length y ≡ 1) {F : Filter} (read : F ≡ road_in f) {a : Answer Float} {e : Estimate}
    (s : (a, e) ≡ updated_of F.start (update F.sensor (at z 0 ∷ []) F.start)) where
  abbrev outcome : Outcome Estimate Vector
  outcome = update (sensor_at 2 1 1 f) z (estimate_at 2 1 1 f)

  same : (a, e) ≡ updated_of (estimate_at 2 1 1 f) outcome
  same = s ∙ ap₂ (λ (G : Filter) (v : Vector). updated_of G.start (update G.sensor v G.start)) read (whole-vector 1 z R.one)

  -- by the sizes
  by_sizes : {r : Answer (Unit {0}) × (List Float × List Float)} → r ≡ outcome_in 2 1 1 f y outcome → r ≡ update_in n m i f z y
  by_sizes p =
      p
      ∙ ap (λ (b : Bool). outcome_in 2 1 1 f y (if_fitting b outcome)) (sym (with-passed R.long R.one ly))
      ∙ (λ t. update_in (sym R.states t) (sym R.measurements t) (sym R.inputs t) f z y)

  pub updates : {x : Float} {g : List Float} → a ≡ Ok x → g ≡ with_estimate 2 1 1 f e → (Ok tt, (g, set y 0 x)) ≡ update_in n m i f z y
  updates {x} {g} d p = by_sizes (go outcome (way _ _ _) same)
    where
      go : (o : Outcome Estimate Vector) → Way 2 1 o → (a, e) ≡ updated_of (estimate_at 2 1 1 f) o → (Ok tt, (g, set y 0 x)) ≡ outcome_in 2 1 1 f y o
      go o (stopped k) q = absurd (differ ((λ t. (sym q t).0) ∙ d))
      go o (went c b lc sb) q =
          let told : x ≡ at c 0 = same_answer (sym d ∙ λ t. (q t).0) in
          let there : set y 0 x ≡ c = one_place y x ly ∙ ap (λ (w : Float). w ∷ []) told ∙ whole-vector 1 c lc in
          λ t. (Ok tt, ((p ∙ ap (with_estimate 2 1 1 f) (λ t. (q t).1)) t, there t))

  pub refuses : {k : Refusal} → a ≡ Err k → (Err k, (f, y)) ≡ update_in n m i f z y
  refuses {k} d = by_sizes (go outcome (way _ _ _) same)
    where
      go : (o : Outcome Estimate Vector) → Way 2 1 o → (a, e) ≡ updated_of (estimate_at 2 1 1 f) o → (Err k, (f, y)) ≡ outcome_in 2 1 1 f y o
      go o (stopped j) q = let told : k ≡ j = same-refusal (sym d ∙ λ t. (q t).0) in λ t. (Err (told t), (f, y))
      go o (went c b lc sb) q = absurd (differ (sym d ∙ λ t. (q t).0))
