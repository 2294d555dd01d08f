-- What the loop of `filter` keeps.
use Rattle.road.specs.Road.{motion_of, sensor_of, estimate_of}
use Rattle.tracking.specs.Track.{measured}
use Rattle.tracker.proofs.Storing.{Storing}
use Rattle.tracker.proofs.filter.Given as goal

abbrev pub invariant-loop-k : goal.invariant-loop-k
invariant-loop-k l = Storing (motion_of l.fn.f.motion) (sensor_of l.fn.f.sensor) (estimate_of l.fn.f.pair) measured l.readings l.initial.slots l.k (estimate_of l.e) l.slots
