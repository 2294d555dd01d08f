-- `texts` keeps its promise.
use Rattle.sheets.proofs.SheetOne.{texts}
use Rattle.sheets.proofs.texts.Goals as goal

pub returns : goal.returns
returns c = texts
