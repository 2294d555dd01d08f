-- What the loop of `diagonal_sum` keeps.
use Prim.Native.Nat.{◌-◌, ◌≤◌}
use Rattle.scalar.specs.Number.{+0}
use Rattle.algebra.specs.Matrix.{cell}
use Rattle.algebra.proofs.Matrices.{Summing}
use Rattle.elementwise.proofs.diagonal_sum.Given as goal

abbrev pub invariant-loop-i : goal.invariant-loop-i
invariant-loop-i l = (l.rows ≤ 4) × Summing +0 (λ i'. cell l.a i' i') l.rows l.i l.t

abbrev pub decreases-loop-i : goal.decreases-loop-i
decreases-loop-i l = l.rows - l.i
