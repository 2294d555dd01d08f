-- `position_velocity` meets its contract: the numbers of the road's filter, laid flat.
use mathlib.Core.Path.{ap, ◌∙◌}
use mathlib.Core.List.{[], ◌∷◌}
use Rattle.scalar.specs.Number.{+0}
use Rattle.algebra.specs.Array.{pad}
use Rattle.road.specs.Road.{Filter}
use Rattle.kalman.specs.declared.KalmanFilter.{KalmanFilter}
use Rattle.kalman.specs.Record.{record_of}
use Rattle.kalman.proofs.KalmanFilter.position_velocity.Goals as goal

abbrev filter_of : Filter → KalmanFilter
filter_of F = record_of F.motion F.sensor F.start

pub returns : goal.returns
unfolding pad
returns c =
    let e = c.position_velocity-f.result.pair in
    (λ k. record {
      n = 2;
      m = 1;
      i = 1;
      a = c.flat_two.ensures k;
      b = c.to_flat.ensures k;
      h = c.to_flat-2.ensures k;
      q = c.flat_two-2.ensures k;
      r = c.to_flat-3.ensures k;
      x = e.x0 ∷ e.x1 ∷ +0 ∷ +0 ∷ [];
      p = c.flat_two-3.ensures k;
    })
    ∙ ap filter_of c.position_velocity-f.ensures
