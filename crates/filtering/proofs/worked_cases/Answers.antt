-- `worked_cases` meets its contract: the cases, computed.
use Rattle.filtering.proofs.Cases.{cases}
use Rattle.filtering.proofs.worked_cases.Goals as goal

pub returns : goal.returns
returns c = cases
