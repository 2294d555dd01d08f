-- `predict` meets its contract: by what the inversion of omega answers, and then as of an estimate.
use Rattle.answer.proofs.Exits.{exit}
use Rattle.information_steps.proofs.Ways.{predicted, not_predicted}
use Rattle.filtering.specs.Filter.{predicted_state}
use Rattle.information_steps.proofs.predict.Goals as goal

pub returns-in_err-p : goal.returns-in_err-p
returns-in_err-p c =
    let a = c.args in
    not_predicted a.n a.i a.a.now a.b.now a.q.now a.u.now a.omega.now a.xi.now c.inverse_of.ensures c.in_err-p.was (exit c.from_residual.ensures.1)

pub returns : goal.returns
unfolding predicted_state
returns c =
    let a = c.args in
    predicted a.n a.i a.a.now a.b.now a.q.now a.u.now a.omega.now a.xi.now c.inverse_of.ensures c.in_ok-p.was
    c.product_vector-x.ensures c.predicted_state-moved.ensures c.propagated-spread.ensures c.of_estimate.ensures
