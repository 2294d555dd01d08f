-- `predict_in` meets its contract: by the tests of the sizes.
use mathlib.Core.Path.{sym, ap, ◌∙◌}
use Rattle.std.specs.Prelude.{Ok}
use Rattle.sizes.specs.Size.{count}
use Rattle.filtering.specs.Linear.{predict}
use Rattle.steps.proofs.Sizes.{fitted_given}
use Rattle.steps.proofs.Records.{by_sizes}
use Rattle.kalman.specs.Record.{holding, predict_flat}
use Rattle.kalman.proofs.KalmanFilter.predict_in.Goals as goal

pub returns-in-Two-One : goal.returns-in-Two-One
unfolding predict
returns-in-Two-One c =
    let a = c.args in
    let f = a.self.now in
    let s = fitted_given _ _ _ _ _ c.fitted.ensures c.in_ok-n.was in
    by_sizes (λ o. o) (holding f) f (λ n i. predict_flat n i f a.u.now) s.passed (ap count (sym c.in-Two-One.is-0) ∙ s.states) (ap count (sym c.in-Two-One.is-1) ∙ s.inputs) (λ k. (Ok tt, c.predict_road.ensures k))

pub returns-in_default : goal.returns-in_default
unfolding predict
returns-in_default c =
    let a = c.args in
    let f = a.self.now in
    let s = fitted_given _ _ _ _ _ c.fitted.ensures c.in_ok-n.was in
    by_sizes (λ o. o) (holding f) f (λ n i. predict_flat n i f a.u.now) s.passed s.states s.inputs (λ k. (Ok tt, c.predict_rows.ensures k))
