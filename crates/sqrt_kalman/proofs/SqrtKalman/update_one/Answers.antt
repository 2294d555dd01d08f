-- `update_one` meets its contract: what `update` tells, read as a number.
use Rattle.algebra.specs.Matrix.{at}
use Rattle.sqrt_steps.proofs.Maps.{map_gives}
use Rattle.sqrt_kalman.proofs.One.{one_step}
use Rattle.sqrt_kalman.proofs.SqrtKalman.update_one.Goals as goal

pub returns : goal.returns
returns c = one_step c.args.self c.args.z c.update-answer.ensures (map_gives (λ y. at y 0) _ c.map.ensures.cases (λ x r q. q))
