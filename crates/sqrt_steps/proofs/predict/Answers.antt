-- `predict` meets its contract: by what Cholesky answers.
use Rattle.filtering.specs.Filter.{predicted_state}
use Rattle.sqrt_steps.proofs.Predictions.{factorization, when_factored}
use Rattle.sqrt_steps.proofs.predict.Goals as goal

pub returns-in-Ok : goal.returns-in-Ok
unfolding predicted_state
returns-in-Ok c =
    let a = c.args in
    when_factored a.n a.i a.a.now a.b.now a.q.now a.u.now a.x.now a.l.now c.predicted_state.ensures
    (factorization a.n a.i a.a.now a.b.now a.q.now a.u.now a.x.now a.l.now c.covariance-p.ensures c.propagated-s.ensures c.factor_of.ensures) c.in-Ok.is
