-- `demand3_of_call` keeps its promise: demand 3, of a call whose sizes are right.
use Rattle.rts_pass.proofs.Call.{demand3_of_call}
use Rattle.rts_pass.proofs.demand3_of_call.Goals as goal

pub returns : goal.returns
returns c = demand3_of_call
