-- `reports` keeps its promise.
use Rattle.sheets.proofs.Printed.{reports}
use Rattle.sheets.proofs.reports.Goals as goal

pub returns : goal.returns
returns c = reports
