-- `demand3_of_slices` keeps its promise.
use Rattle.c_smoothers.proofs.Duties.{demand3_of_slices}
use Rattle.c_smoothers.proofs.demand3_of_slices.Goals as goal

pub returns : goal.returns
returns c = demand3_of_slices
