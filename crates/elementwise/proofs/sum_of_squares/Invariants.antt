-- What the loop of `sum_of_squares` keeps.
use lib.ListN.{length}
use Rattle.sizes.specs.Size.{count}
use Rattle.elementwise.proofs.Cells.{Squaring}
use Rattle.elementwise.proofs.sum_of_squares.Given as goal

abbrev pub invariant-loop-row : goal.invariant-loop-row
invariant-loop-row l = Squaring l.row-items (length l.row-items) (count l.c) l.row-index l.s
