-- `worked_cases` meets its contract: the cases, computed.
use Rattle.smoothing.proofs.Cases.{cases}
use Rattle.smoothing.proofs.worked_cases.Goals as goal

pub returns : goal.returns
returns c = cases
