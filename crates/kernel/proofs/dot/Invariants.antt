-- What the loop of `dot` keeps.
use Prim.Native.Nat.{◌-◌, ◌≤◌}
use Rattle.scalar.specs.Number.{◌⊗◌, +0}
use Rattle.algebra.specs.Matrix.{at}
use Rattle.algebra.proofs.Matrices.{Summing}
use Rattle.kernel.proofs.dot.Given as goal

abbrev pub invariant-loop-i : goal.invariant-loop-i
invariant-loop-i l = (l.n ≤ 4) × Summing +0 (λ i'. at l.v i' ⊗ at l.w i') l.n l.i l.s

abbrev pub decreases-loop-i : goal.decreases-loop-i
decreases-loop-i l = l.n - l.i
