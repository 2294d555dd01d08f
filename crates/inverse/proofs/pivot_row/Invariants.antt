-- What the loop of `pivot_row` keeps.
use Prim.Native.Nat.{◌-◌, ◌≤◌}
use Rattle.inverse.proofs.Pivots.{Searching}
use Rattle.inverse.proofs.pivot_row.Given as goal

abbrev pub invariant-loop-i : goal.invariant-loop-i
invariant-loop-i l = (l.rows ≤ 4) × Searching l.a l.col l.rows l.i l.p l.largest

abbrev pub decreases-loop-i : goal.decreases-loop-i
decreases-loop-i l = 4 - l.i
