-- The steps of an information filter in one slice: what each tells and leaves. Definitions only.
use Rattle.std.specs.Prelude.{ℕ, List, length, Float}
use Rattle.answer.specs.Answer.{Answer, mapped}
use Rattle.answer.specs.Outcome.{Outcome, if_fitting, standing}
use Rattle.algebra.specs.Matrix.{Vector}
use Rattle.filtering.specs.Information.{Information, predict, update}
use Rattle.c_copies.specs.Filter.{is_step, is_step_with, motion_at, sensor_at, told_in}
use Rattle.c_information.specs.Information.{information_at, with_information, stepped_in}

abbrev pub predict_in : ℕ → ℕ → ℕ → List Float → List Float → Answer (Unit {0}) × List Float
predict_in n m i f u = stepped_in n m i f (if_fitting (is_step n m i (length f) i (length u)) (predict (motion_at n m i f) u (information_at n m i f)))

-- the outcome of an update of f, with the innovation in a slice that held y
abbrev pub outcome_in : ℕ → ℕ → ℕ → List Float → List Float → Outcome Information Vector → Answer (Unit {0}) × (List Float × List Float)
outcome_in n m i f y o = (mapped (λ _. tt) o.told, (standing (with_information n m i f) f o.left, told_in y o.told))

abbrev pub update_in : ℕ → ℕ → ℕ → List Float → List Float → List Float → Answer (Unit {0}) × (List Float × List Float)
update_in n m i f z y =
    outcome_in n m i f y (if_fitting (is_step_with n m i (length f) m (length z) m (length y)) (update (sensor_at n m i f) z (information_at n m i f)))
