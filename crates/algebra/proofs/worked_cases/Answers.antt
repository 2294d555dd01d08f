-- `worked_cases` meets its contract: the cases, computed.
use Rattle.algebra.proofs.Cases.{cases}
use Rattle.algebra.proofs.worked_cases.Goals as goal

pub returns : goal.returns
returns c = cases
