-- What the loop of `all_metres` keeps.
use Rattle.sheet.proofs.Metres.{Marked}
use Rattle.sheet.proofs.lines.all_metres.Given as goal

abbrev pub invariant-loop-i : goal.invariant-loop-i
invariant-loop-i l = Marked l.positions l.first l.metres.items l.i
