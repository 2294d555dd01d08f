-- What the loop of `read_rows` keeps.
use Rattle.sheet_reader.proofs.Fill.{Fill}
use Rattle.sheet_reader.proofs.parts.read_rows.Given as goal

abbrev pub invariant-loop-i : goal.invariant-loop-i
invariant-loop-i g l = Fill g.row.N g.R.Row.says g.R.Row.in_range g.row.K l.n l.first l.from l.s l.rows l.before l.i
