-- `worked_cases` meets its contract: the cases, computed.
use Rattle.mixing.proofs.Cases.{cases}
use Rattle.mixing.proofs.worked_cases.Goals as goal

pub returns : goal.returns
returns c = cases
