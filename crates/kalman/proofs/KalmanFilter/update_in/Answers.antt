-- `update_in` meets its contract: by the tests of the sizes.
use mathlib.Core.Path.{sym, ap, ◌∙◌}
use Rattle.algebra.specs.Array.{cut}
use Rattle.sizes.specs.Size.{count}
use Rattle.matrix.specs.Result.{as_vector}
use Rattle.steps.proofs.Sizes.{fitted_given}
use Rattle.steps.proofs.Records.{by_sizes}
use Rattle.kalman.specs.Record.{holding, update_flat}
use Rattle.kalman.proofs.KalmanFilter.update_in.Goals as goal

pub returns-in-Two-One : goal.returns-in-Two-One
returns-in-Two-One c =
    let a = c.args in
    let f = a.self.now in
    let s = fitted_given _ _ _ _ _ c.fitted.ensures c.in_ok-n.was in
    by_sizes as_vector (holding f) f (λ n m. update_flat n m f (cut m a.z.now)) s.passed (ap count (sym c.in-Two-One.is-0) ∙ s.states) (ap count (sym c.in-Two-One.is-1) ∙ s.measurements) c.update_road.ensures

pub returns-in_default : goal.returns-in_default
returns-in_default c =
    let a = c.args in
    let f = a.self.now in
    let s = fitted_given _ _ _ _ _ c.fitted.ensures c.in_ok-n.was in
    by_sizes as_vector (holding f) f (λ n m. update_flat n m f (cut m a.z.now)) s.passed s.states s.measurements c.update_rows.ensures
