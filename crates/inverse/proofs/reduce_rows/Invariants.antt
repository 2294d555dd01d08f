-- What the loop of `reduce_rows` keeps.
use Prim.Native.Nat.{◌-◌}
use Rattle.inverse.proofs.Rows.{Reducing}
use Rattle.inverse.proofs.reduce_rows.Given as goal

abbrev pub invariant-loop-i : goal.invariant-loop-i
invariant-loop-i l = Reducing l.f l.initial.m l.col l.i l.m

abbrev pub decreases-loop-i : goal.decreases-loop-i
decreases-loop-i l = 4 - l.i
