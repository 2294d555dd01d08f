-- One reading: what an update tells as a number. Assumes nothing.
use mathlib.Core.Path.{◌≡◌, sym, ap, ◌∙◌}
use mathlib.Core.List.{List, [], ◌∷◌}
use lib.ListN.{length}
use lib.Ieee.{Float}
use Rattle.std.specs.Prelude.{Ok, Err}
use Rattle.answer.specs.declared.Step.{Step}
use Rattle.answer.specs.Answer.{Answer, mapped}
use Rattle.answer.specs.Outcome.{Outcome, unchanged, standing, ◌else_leave◌then◌}
use Rattle.answer.proofs.Answers.{differ, same_answer}
use Rattle.algebra.specs.Matrix.{Vector, Matrix, at}
use Rattle.algebra.specs.Inverse.{inv}
use Rattle.matrix.specs.Result.{as_vector}
use Rattle.filtering.specs.Filter.{Sensor, innovation}
use Rattle.filtering.specs.Information.{Information, informed, state, update}
use Rattle.filtering.proofs.Shapes.{length-innovation}
use Rattle.steps.proofs.Records.{one_mapped, one_of_four, same-one, one_told}
use Rattle.information_steps.specs.Step.{update_by}
use Rattle.information_steps.proofs.Ways.{update_is}
use Rattle.information_filter.specs.declared.InformationFilter.{InformationFilter}
use Rattle.information_filter.specs.Record.{update_flat, holding, updating, update_of, update_one_of}

-- an update tells m numbers
told-length : (Y : Sensor Matrix) (z : Vector) (o : Information) (y : Vector) → (update Y z o).told ≡ Ok y → length y ≡ Y.m
told-length Y z o y q = go (inv Y.m Y.r) ((λ t. (sym (update_is Y z o) t).told) ∙ q)
  where
    last : (a : Answer Vector) → mapped (λ x. innovation Y.m Y.n Y.h x z) a ≡ Ok y → length y ≡ Y.m
    last (Err k) q = absurd (differ q)
    last (Ok x) q = ap length (sym (same_answer q)) ∙ length-innovation Y.m Y.n Y.h x z

    go : (a : Answer Matrix) → (a else_leave unchanged then update_by Y z o).told ≡ Ok y → length y ≡ Y.m
    go (Err k) q = absurd (differ q)
    go (Ok W) q = last (state Y.n (informed Y.n Y.m Y.h W z o)) q

module _ (f : InformationFilter) (z : Float) where
  abbrev by : Vector → Outcome Information Vector
  by v = update_flat f.n f.m f v

  long : (y : Vector) → (updating f (z ∷ []) 1).told ≡ Ok y → length y ≡ 1
  long = one_told f.n f.m f.i by z (told-length _ _ _)

  -- u is what `update` hands back
  pub one_step : {u : Step (List Float) InformationFilter} → u ≡ update_of f (one_of_four f.n f.m f.i by z) 1
      → ◌≡◌ {A = Step Float InformationFilter} (record { answer = mapped (λ c. at c 0) u.answer; left = u.left }) (update_one_of f z)
  one_step {u} e =
      (λ k. record { answer = mapped (λ c. at c 0) (e k).answer; left = (e k).left })
      ∙ (λ k. let o = same-one f.n f.m f.i by z k in record { answer = mapped (λ c. at c 0) (as_vector o.told); left = standing (holding f) f o.left })
      ∙ λ k. record { answer = one_mapped (updating f (z ∷ []) 1).told long k; left = standing (holding f) f (updating f (z ∷ []) 1).left }
