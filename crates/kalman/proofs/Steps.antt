-- Steps on rows, and on the numbers of one road, are steps on a record's numbers, which stand flat. Assumes nothing.
use mathlib.Core.Path.{◌≡◌, sym, ap, ◌∙◌}
use mathlib.Core.List.{List, [], ◌∷◌}
use Prim.Native.Nat.{ℕ}
use lib.Ieee.{Float}
use Rattle.std.specs.Prelude.{Ok, Err}
use Rattle.answer.specs.declared.Refusal.{Refusal}
use Rattle.answer.specs.Answer.{Answer}
use Rattle.answer.specs.Outcome.{Outcome, standing, handed}
use Rattle.answer.proofs.Answers.{differ, same_answer, same-refusal}
use Rattle.algebra.specs.Matrix.{Vector}
use Rattle.algebra.specs.Array.{cut, pad_row, rows_of_flat, flat_of_rows}
use Rattle.sizes.specs.declared.Size.{Size}
use Rattle.sizes.specs.Size.{count, front}
use Rattle.matrix.specs.Result.{as_vector}
use Rattle.filtering.specs.Filter.{Motion, Estimate, estimate}
use Rattle.filtering.specs.Linear.{predict, update}
use Rattle.filtering.proofs.Shapes.{Way, stopped, went}
use Rattle.steps.specs.Step as Step
use Rattle.road.specs.Road.{updated_of}
use Rattle.steps.specs.Flat.{sensor_flat}
use Rattle.steps.proofs.Flats.{read, read-sensor}
use Rattle.steps.proofs.Records.{one_number}
use Rattle.kalman.specs.declared.KalmanFilter.{KalmanFilter}
use Rattle.kalman.specs.Record.{estimate_flat, keeping, holding}

-- ---- rows that were read from a record's numbers
pub read-estimate : (n : Size) (x p : List Float) {P : Step.Rows} → P ≡ rows_of_flat p → Step.estimate_rows n x P ≡ estimate_flat (count n) x p
read-estimate n x p e = λ k. estimate (cut (count n) x) (read n n p e k)

pub read-update : (n m : Size) (h r z x p : List Float) {H R P : Step.Rows} {y : Answer (List Float) × (List Float × Step.Rows)} → H ≡ rows_of_flat h → R ≡ rows_of_flat r → P ≡ rows_of_flat p
    → y ≡ Step.updated_rows x P (update (Step.sensor_rows n m H R) (front m z) (Step.estimate_rows n x P))
    → y ≡ Step.updated_rows x P (update (sensor_flat (count n) (count m) h r) (front m z) (estimate_flat (count n) x p))
read-update n m h r z x p {H} {R} {P} eh er ep g = g ∙ λ k. Step.updated_rows x P (update (read-sensor n m h r eh er k) (front m z) (read-estimate n x p ep k))

-- likewise of one road, whose estimate is e
pub road_update : (h r z x p : List Float) {e : Estimate} {y : Answer Float × Estimate} → e ≡ estimate_flat 2 x p → y ≡ updated_of e (update (sensor_flat 2 1 h r) (cut 1 z) e)
    → y ≡ updated_of (estimate_flat 2 x p) (update (sensor_flat 2 1 h r) (cut 1 z) (estimate_flat 2 x p))
road_update h r z x p d g = g ∙ λ k. updated_of (d k) (update (sensor_flat 2 1 h r) (cut 1 z) (d k))

-- ---- what is left in the record f
module _ (f : KalmanFilter) where
  -- by a prediction on rows
  pub rows-predicted : (M : Motion) (u : Vector) (e : Estimate) (a : Step.Rows) {x' p' : List Float} {a' : Step.Rows} → (x', a') ≡ Step.left_rows f.x a (predict M u e) → p' ≡ flat_of_rows a'
      → keeping f (x', p') ≡ standing (holding f) f (predict M u e).left
  unfolding predict
  rows-predicted M u e a g r = λ t. keeping f ((g t).0, (r ∙ λ t. flat_of_rows (g t).1) t)

  -- by an update on rows
  pub rows-refused : (a : Step.Rows) {n m : ℕ} {k : Refusal} {o : Outcome Estimate Vector} {x' : List Float} {a' : Step.Rows} → Way n m o → (Err k, (x', a')) ≡ Step.updated_rows f.x a o
      → (Err k, keeping f (x', f.p)) ≡ handed as_vector (holding f) f o
  rows-refused a (stopped j) g = λ t. ((g t).0, keeping f ((g t).1.0, f.p))
  rows-refused a (went y e l w) g = absurd (differ (λ t. (g t).0))

  pub rows-answered : (a : Step.Rows) {n m : ℕ} {o : Outcome Estimate Vector} {y x' p' : List Float} {a' : Step.Rows} → Way n m o → (Ok y, (x', a')) ≡ Step.updated_rows f.x a o → p' ≡ flat_of_rows a'
      → (Ok y, keeping f (x', p')) ≡ handed as_vector (holding f) f o
  rows-answered a (stopped j) g r = absurd (differ (sym (λ t. (g t).0)))
  rows-answered a (went y e l w) g r = λ t. ((g t).0, keeping f ((g t).1.0, (r ∙ λ t. flat_of_rows (g t).1.1) t))

  -- by an update of one road, from the estimate e
  pub road_refused : (e : Estimate) {n : ℕ} {k : Refusal} {o : Outcome Estimate Vector} {g : Estimate} → Way n 1 o → (Err k, g) ≡ updated_of e o → (Err k, f) ≡ handed as_vector (holding f) f o
  road_refused e {k = k} (stopped j) q = let d : k ≡ j = same-refusal (λ t. (q t).0) in λ t. (Err (d t), f)
  road_refused e (went y e' l w) q = absurd (differ (λ t. (q t).0))

  pub road_answered : (e : Estimate) {n : ℕ} {o : Outcome Estimate Vector} {g : Estimate} {y : Float} → Way n 1 o → (Ok y, g) ≡ updated_of e o
      → (Ok (pad_row (y ∷ [])), holding f g) ≡ handed as_vector (holding f) f o
  road_answered e (stopped j) q = absurd (differ (sym (λ t. (q t).0)))
  road_answered e {y = w} (went y e' l s) q =
      let b : w ∷ [] ≡ y = ap (λ (v : Float). v ∷ []) (same_answer (λ t. (q t).0)) ∙ one_number y l in
      λ t. (Ok (pad_row (b t)), holding f (q t).1)
