-- `position_velocity` meets its contract: the definition, written out.
use mathlib.Core.Path.{refl}
use lib.Ieee.{of_bits}
use Rattle.algebra.specs.Matrix.{identity, scale}
use Rattle.filtering.specs.Linear.{tracker_motion, tracker_sensor, at_start}
use Rattle.road.proofs.Road.position_velocity.Goals as goal

pub returns : goal.returns
unfolding identity scale tracker_motion tracker_sensor at_start of_bits
returns c = refl
