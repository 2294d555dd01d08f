-- `moved` meets its contract: the predict.
use Rattle.road.specs.Road.{motion_of, estimate_of}
use Rattle.tracker.proofs.Readings.{moved_is}
use Rattle.tracker.proofs.moved.Goals as goal

pub returns : goal.returns
returns c = let a = c.args in moved_is (motion_of a.motion) (estimate_of a.e) _ c.predict.ensures
