-- One reading: what an update tells for it, as a number. Assumes nothing.
use mathlib.Core.Path.{◌≡◌, ◌∙◌}
use mathlib.Core.List.{List, [], ◌∷◌}
use lib.ListN.{length}
use lib.Ieee.{Float}
use Rattle.std.specs.Prelude.{Ok}
use Rattle.answer.specs.declared.Step.{Step}
use Rattle.answer.specs.Answer.{Answer, mapped}
use Rattle.answer.specs.Outcome.{Outcome, standing}
use Rattle.algebra.specs.Matrix.{Vector, at}
use Rattle.matrix.specs.Result.{as_vector}
use Rattle.filtering.specs.SquareRoot.{Factored, update}
use Rattle.steps.proofs.Records.{one_mapped, one_of_four, same-one, one_told}
use Rattle.sqrt_steps.proofs.Updates.{told-length}
use Rattle.sqrt_kalman.specs.declared.SqrtKalman.{SqrtKalman}
use Rattle.sqrt_kalman.specs.Record.{channel_flat, held, holding, updating, update_of, update_one_of}

module _ (f : SqrtKalman) (z : Float) where
  abbrev by : Vector → Outcome Factored Vector
  by v = update (channel_flat f.n f.m f.h f.r_diag) v (held f)

  long : (y : Vector) → (updating f (z ∷ []) 1).told ≡ Ok y → length y ≡ 1
  long = one_told f.n f.m f.i by z (told-length _ _ _)

  -- u is what `update` hands back, and v its answer as a number
  pub one_step : {u : Step (List Float) SqrtKalman} {v : Answer Float} → u ≡ update_of f (one_of_four f.n f.m f.i by z) 1 → v ≡ mapped (λ c. at c 0) u.answer
      → ◌≡◌ {A = Step Float SqrtKalman} (record { answer = v; left = u.left }) (update_one_of f z)
  one_step {u} e d =
      (λ k. record { answer = d k; left = u.left })
      ∙ (λ k. record { answer = mapped (λ c. at c 0) (e k).answer; left = (e k).left })
      ∙ (λ k. let o = same-one f.n f.m f.i by z k in record { answer = mapped (λ c. at c 0) (as_vector o.told); left = standing (holding f) f o.left })
      ∙ λ k. record { answer = one_mapped (updating f (z ∷ []) 1).told long k; left = standing (holding f) f (updating f (z ∷ []) 1).left }
