-- `stored_duty` keeps its promise.
use Rattle.rts_smoother.proofs.Call.{stored-duty}
use Rattle.rts_smoother.proofs.stored_duty.Goals as goal

pub returns : goal.returns
returns c = stored-duty
