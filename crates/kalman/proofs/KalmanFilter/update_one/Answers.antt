-- `update_one` meets its contract: what `update` tells, read as a number.
use mathlib.Core.Path.{◌∙◌}
use Rattle.algebra.specs.Matrix.{at}
use Rattle.kalman.proofs.One.{is_mapped, one_step}
use Rattle.kalman.proofs.KalmanFilter.update_one.Goals as goal

pub returns : goal.returns
returns c =
    let u = c.update-answer in
    let first = is_mapped (λ y. at y 0) u.result.answer c.map.result c.map.ensures.cases in
    (λ k. record { answer = first k; left = u.result.left }) ∙ one_step c.args.self c.args.z u.ensures
