-- What the loop of `write_numbers` keeps.
use Rattle.layout.proofs.Loops.{Copying}
use Rattle.layout.proofs.write_numbers.Given as goal

abbrev pub invariant-loop-i : goal.invariant-loop-i
invariant-loop-i l = Copying l.k l.l l.initial.b l.i l.b
