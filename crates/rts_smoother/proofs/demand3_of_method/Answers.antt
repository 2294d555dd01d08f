-- `demand3_of_method` keeps its promise: demand 3, of a call of the method whose sizes are right.
use Rattle.rts_smoother.proofs.Call.{demand3_of_method}
use Rattle.rts_smoother.proofs.demand3_of_method.Goals as goal

pub returns : goal.returns
returns c = demand3_of_method
