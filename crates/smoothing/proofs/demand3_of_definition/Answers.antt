-- `demand3_of_definition` keeps its promise.
use Rattle.smoothing.proofs.Demand3.{demand3}
use Rattle.smoothing.proofs.demand3_of_definition.Goals as goal

pub returns : goal.returns
returns c = demand3
