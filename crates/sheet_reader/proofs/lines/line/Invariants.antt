-- What the loop of `line` keeps.
use Rattle.sheet_reader.proofs.Line.{Reads}
use Rattle.sheet_reader.proofs.lines.line.Given as goal

abbrev pub invariant-loop-k : goal.invariant-loop-k
invariant-loop-k g l = Reads g.row.K l.at l.s l.k l.number-items
