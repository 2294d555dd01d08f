-- `of_estimate` meets its contract: by what the inversion answers.
use Rattle.answer.proofs.Exits.{exit}
use Rattle.information_steps.proofs.Ways.{made, not_made}
use Rattle.information_steps.proofs.of_estimate.Goals as goal

pub returns-in_err-w : goal.returns-in_err-w
returns-in_err-w c =
    let a = c.args in
    not_made a.n a.x.now a.p.now c.inverse_of.ensures a.omega.now a.xi.now c.in_err-w.was (exit c.from_residual.ensures.1)

pub returns : goal.returns
returns c =
    let a = c.args in
    made a.n a.x.now a.p.now c.inverse_of.ensures a.omega.now a.xi.now c.in_ok-w.was c.product_vector.ensures
