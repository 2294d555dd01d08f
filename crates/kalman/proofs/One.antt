-- One reading: what an update tells as a number. Assumes nothing.
use mathlib.Core.Path.{◌≡◌, sym, ap, ◌∙◌}
use mathlib.Core.List.{List, [], ◌∷◌}
use Prim.Native.Nat.{ℕ}
use lib.ListN.{length}
use lib.Ieee.{Float}
use Rattle.std.specs.Prelude.{Ok, Err}
use Rattle.std.specs.Result.{MatchResult, IsOkAnd}
use Rattle.answer.specs.declared.Step.{Step}
use Rattle.answer.specs.Answer.{Answer, mapped}
use Rattle.answer.specs.Outcome.{Outcome, standing}
use Rattle.answer.proofs.Answers.{differ, same_answer}
use Rattle.algebra.specs.Matrix.{Vector, at}
use Rattle.matrix.specs.Result.{as_vector}
use Rattle.filtering.specs.Filter.{Estimate}
use Rattle.filtering.specs.Linear.{update}
use Rattle.filtering.proofs.Shapes.{Way, stopped, went, way}
use Rattle.steps.specs.Flat.{sensor_flat}
use Rattle.steps.proofs.Records.{one_mapped, one_of_four, same-one, one_told}
use Rattle.kalman.specs.declared.KalmanFilter.{KalmanFilter}
use Rattle.kalman.specs.Record.{estimate_flat, holding, updating, update_of, update_one_of}

-- what `Result::map` makes of a closure that gives f
pub is_mapped : {A B : Type 0} (f : A → B) (a : Answer A) (r : Answer B) → MatchResult a (λ x. IsOkAnd r (λ y. y ≡ f x)) (λ e. r ≡ Err e) → r ≡ mapped f a
is_mapped f (Err e) r m = m
is_mapped f (Ok x) (Ok y) m = ap Ok m
is_mapped f (Ok x) (Err e) m = absurd m

module _ (f : KalmanFilter) (z : Float) where
  abbrev by : Vector → Outcome Estimate Vector
  by v = update (sensor_flat f.n f.m f.h f.r) v (estimate_flat f.n f.x f.p)

  told-length : {n m : ℕ} {o : Outcome Estimate Vector} → Way n m o → (y : Vector) → o.told ≡ Ok y → length y ≡ m
  told-length (stopped k) y q = absurd (differ q)
  told-length (went x e l s) y q = ap length (sym (same_answer q)) ∙ l

  long : (y : Vector) → (updating f (z ∷ []) 1).told ≡ Ok y → length y ≡ 1
  long = one_told f.n f.m f.i by z (told-length (way _ _ _))

  -- u is what `update` hands back
  pub one_step : {u : Step (List Float) KalmanFilter} → u ≡ update_of f (one_of_four f.n f.m f.i by z) 1
      → ◌≡◌ {A = Step Float KalmanFilter} (record { answer = mapped (λ c. at c 0) u.answer; left = u.left }) (update_one_of f z)
  one_step {u} e =
      (λ k. record { answer = mapped (λ c. at c 0) (e k).answer; left = (e k).left })
      ∙ (λ k. let o = same-one f.n f.m f.i by z k in record { answer = mapped (λ c. at c 0) (as_vector o.told); left = standing (holding f) f o.left })
      ∙ λ k. record { answer = one_mapped (updating f (z ∷ []) 1).told long k; left = standing (holding f) f (updating f (z ∷ []) 1).left }
