-- The steps of a square-root filter in one slice: what each tells and leaves. Definitions only.
use Rattle.std.specs.Prelude.{ℕ, List, length, Float}
use Rattle.answer.specs.Answer.{Answer, mapped}
use Rattle.answer.specs.Outcome.{Outcome, if_fitting, standing}
use Rattle.algebra.specs.Matrix.{Vector}
use Rattle.filtering.specs.Filter.{Motion, Sensor}
use Rattle.filtering.specs.SquareRoot.{Factored, predict, update}
use Rattle.layout.specs.Layout.{vector_at, offset, part_at, root_parts}
use Rattle.c_copies.specs.Filter.{motion_by, told_in}
use Rattle.c_sqrt_kalman.specs.Root.{is_step, is_step_with, factored_at, with_factored, stepped_in}

-- ---- the model that the slice f holds
abbrev pub motion_at : ℕ → ℕ → ℕ → List Float → Motion
motion_at n m i f = motion_by (λ m. 1) n m i f

abbrev pub channel_at : ℕ → ℕ → ℕ → List Float → Sensor Vector
channel_at n m i f = let L = root_parts n m i in record { n = n; m = m; h = part_at L f 2; r = vector_at m f (offset L 4) }

-- ---- the steps: refused where a size does not fit, else the filter's own outcome; an update's answer goes into a slice, and is not told
abbrev pub predict_in : ℕ → ℕ → ℕ → List Float → List Float → Answer (Unit {0}) × List Float
predict_in n m i f u = stepped_in n m i f (if_fitting (is_step n m i (length f) i (length u)) (predict (motion_at n m i f) u (factored_at n m i f)))

-- the outcome of an update of f, with the innovations in a slice that held y
abbrev pub outcome_in : ℕ → ℕ → ℕ → List Float → List Float → Outcome Factored Vector → Answer (Unit {0}) × (List Float × List Float)
outcome_in n m i f y o = (mapped (λ _. tt) o.told, (standing (with_factored n m i f) f o.left, told_in y o.told))

abbrev pub update_in : ℕ → ℕ → ℕ → List Float → List Float → List Float → Answer (Unit {0}) × (List Float × List Float)
update_in n m i f z y =
    outcome_in n m i f y (if_fitting (is_step_with n m i (length f) m (length z) m (length y)) (update (channel_at n m i f) z (factored_at n m i f)))
