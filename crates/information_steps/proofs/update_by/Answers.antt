-- `update_by` meets its contract: by what the state after the addition is told as.
use Rattle.answer.proofs.Exits.{exit}
use Rattle.information_steps.proofs.Ways.{shape-informed, length-informed, told-after, refused-after}
use Rattle.information_steps.proofs.update_by.Goals as goal

pub returns-in_err-x : goal.returns-in_err-x
returns-in_err-x c =
    let a = c.args in
    refused-after a.n a.m a.h.now a.z.now _ (shape-informed _ _ _ _ _ _) (length-informed _ _ _ _ _ _) c.inform.ensures c.state.ensures c.in_err-x.was (exit c.from_residual.ensures.1)

pub returns : goal.returns
returns c =
    let a = c.args in
    told-after a.n a.m a.h.now a.z.now _ (shape-informed _ _ _ _ _ _) (length-informed _ _ _ _ _ _) c.inform.ensures c.state.ensures c.in_ok-x.was c.innovation.ensures
