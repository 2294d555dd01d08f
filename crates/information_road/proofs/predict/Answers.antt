-- `predict` meets its contract: by what the inversion of omega answers, and then as of an estimate.
use Rattle.answer.proofs.Exits.{exit}
use Rattle.information_road.proofs.Ways.{predicted, not_predicted}
use Rattle.information_road.proofs.predict.Goals as goal

pub returns-in_err-before : goal.returns-in_err-before
returns-in_err-before c =
    let a = c.args in
    not_predicted a.o c.of_estimate.ensures a.motion a.u c.in_err-before.was (exit c.from_residual.ensures.1)

pub returns : goal.returns
returns c =
    let a = c.args in
    predicted a.o c.of_estimate.ensures a.motion a.u _ c.in_ok-before.was c.predict.ensures c.of_estimate-2.ensures
