-- `kalman_position_velocity` meets its contract: the tracker's numbers are copied.
use mathlib.Core.Path.{◌≡◌, refl, sym, ap, ◌∙◌}
use native.Mathlib.Omega.{arith}
use lib.ListN.{length}
use lib.Ieee.{Float}
use borrow.Author.Tests.{eq-eqb}
use Rattle.std.specs.Prelude.{Ok}
use Rattle.algebra.specs.Matrix.{scale, identity}
use Rattle.filtering.specs.Linear.{tracker_motion, tracker_sensor, at_start}
use Rattle.answer.specs.Told.{written}
use Rattle.matrix.proofs.Results.{as_answered}
use Rattle.layout.proofs.Places.{placed-whole}
use Rattle.layout.proofs.Calls.{slice-put}
use Rattle.road.specs.Road.{tracker_of}
use Rattle.c_copies.specs.Filter.{filter_numbers}
use Rattle.c_copies.proofs.Filters.{length_given}
use Rattle.c_roads.proofs.kalman_position_velocity.Goals as goal

long : (t q r : Float) → length (filter_numbers (tracker_of t q r)) ≡ 19
unfolding tracker_motion tracker_sensor at_start scale identity
long t q r = refl

pub returns : goal.returns
returns c =
    let a = c.args in
    let f = a.filter.now in
    let l = length_given c.in_ok-fits.ensures in
    let same = c.road_numbers-numbers.ensures ∙ ap filter_numbers c.position_velocity.ensures in
    let all : length c.road_numbers-numbers.result ≡ 19 = ap length same ∙ long a.dt a.process_noise a.measurement_noise in
    let is = slice-put 0 f c.road_numbers-numbers.result (omega (arith, all, l)) c.put_slice.ensures ∙ placed-whole c.road_numbers-numbers.result f (all ∙ sym l) ∙ same in
    as_answered (written f) (filter_numbers (tracker_of a.dt a.process_noise a.measurement_noise)) (eq-eqb _ _ l) (λ t. (Ok tt, is t))
