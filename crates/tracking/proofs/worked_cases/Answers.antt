-- `worked_cases` meets its contract: the cases, computed.
use Rattle.tracking.proofs.Cases.{cases}
use Rattle.tracking.proofs.worked_cases.Goals as goal

pub returns : goal.returns
returns c = cases
