-- `state` meets its contract: by what the inversion answers.
use Rattle.answer.proofs.Exits.{exit}
use Rattle.information_steps.proofs.Ways.{state-found, no_state}
use Rattle.information_steps.proofs.state.Goals as goal

pub returns-in_err-p : goal.returns-in_err-p
returns-in_err-p c =
    let a = c.args in
    no_state a.n a.omega.now a.xi.now c.inverse_of.ensures c.in_err-p.was (exit c.from_residual.ensures.1)

pub returns : goal.returns
returns c =
    let a = c.args in
    state-found a.n a.omega.now a.xi.now c.inverse_of.ensures c.in_ok-p.was c.product_vector.ensures
