-- Where the tracker refuses.
use Rattle.sheet.proofs.Tracking.{placed}
use Rattle.sheet.proofs.seen.positions_of.Goals as goal

pub returns-clause-placed : goal.returns-clause-placed
returns-clause-placed c = placed c.settings_of.result c.as_slice.result.now c.track.result c.track.ensures
