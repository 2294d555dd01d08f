-- `track_laws` keeps its promise.
use Rattle.tracking.proofs.Laws.{tracks}
use Rattle.tracking.proofs.track_laws.Goals as goal

pub returns : goal.returns
returns c = tracks
