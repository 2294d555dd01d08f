-- What the loop of `squares_row` keeps.
use lib.ListN.{length}
use Rattle.scalar.specs.Number.{◌⊗◌}
use Rattle.algebra.specs.Matrix.{at}
use Rattle.algebra.proofs.Matrices.{Summing}
use Rattle.elementwise.proofs.squares_row.Given as goal

abbrev pub invariant-loop-x : goal.invariant-loop-x
invariant-loop-x l = Summing l.s (λ j. at l.x-items j ⊗ at l.x-items j) (length l.x-items) l.x-index l.t
