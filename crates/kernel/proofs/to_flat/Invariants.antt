-- What the loop of `to_flat` keeps.
use Prim.Native.Nat.{◌-◌, ◌/◌, ◌%◌}
use Rattle.scalar.specs.Number.{+0}
use Rattle.algebra.specs.Matrix.{cell}
use Rattle.answer.proofs.Tables.{Filling}
use Rattle.kernel.proofs.to_flat.Given as goal

abbrev pub invariant-loop-n : goal.invariant-loop-n
invariant-loop-n l = Filling 16 +0 (λ n'. cell l.rows (n' / 4) (n' % 4)) 16 l.n l.out

abbrev pub decreases-loop-n : goal.decreases-loop-n
decreases-loop-n l = 16 - l.n
