-- `worked_cases` keeps its promise.
use Rattle.sheets.proofs.Cases.{cases}
use Rattle.sheets.proofs.worked_cases.Goals as goal

pub returns : goal.returns
returns c = cases
