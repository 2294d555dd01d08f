-- `predict` meets its contract: the linear filter's step from the covariance, and its factor.
use mathlib.Core.Path.{◌≡◌, ◌∙◌}
use Rattle.std.proofs.Common.{rules}
use Rattle.std.specs.Prelude.{Err}
use Rattle.sqrt_road.specs.Road.{factored_of}
use Rattle.sqrt_road.proofs.Ways.{predicted, unpredicted}
use Rattle.sqrt_road.proofs.predict.Goals as goal

pub returns-in_err-g : goal.returns-in_err-g
returns-in_err-g c =
    let a = c.args in
    let g = c.predict-e.result in
    let e : c.from_residual.result ≡ Err c.in_err-g.field-0.0 = search rules in
    (λ i. (e i, factored_of (record { x0 = g.x0; x1 = g.x1; p = a.g.now.p })))
    ∙ unpredicted a.motion a.u a.g.now c.covariance-p.result g c.covariance-p.ensures c.predict-e.ensures c.factor_of.ensures c.in_err-g.was

pub returns : goal.returns
returns c =
    let a = c.args in
    predicted a.motion a.u a.g.now c.covariance-p.result c.predict-e.result c.covariance-p.ensures c.predict-e.ensures c.factor_of.ensures c.in_ok-g.was
