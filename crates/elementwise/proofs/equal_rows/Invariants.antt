-- What the loop of `equal_rows` keeps.
use Prim.Native.Nat.{◌-◌, ◌≤◌}
use lib.Ieee.{eq}
use Rattle.algebra.specs.Matrix.{cell, every}
use Rattle.sizes.specs.Size.{count}
use Rattle.elementwise.proofs.Cells.{Passing}
use Rattle.elementwise.proofs.equal_rows.Given as goal

abbrev pub invariant-loop-i : goal.invariant-loop-i
invariant-loop-i l = (l.rows ≤ 4) × Passing (λ i'. every (count l.c) (λ j. eq (cell l.a i' j) (cell l.b i' j))) l.rows l.i

abbrev pub decreases-loop-i : goal.decreases-loop-i
decreases-loop-i l = l.rows - l.i
