-- `part_of` meets its contract: the rows are the kernel's.
use Rattle.algebra.specs.Array.{used}
use Rattle.matrix.proofs.Results.{shape_given, matrix_at}
use Rattle.elementwise.proofs.part_of.Goals as goal

pub returns : goal.returns
returns c = matrix_at (λ r k. used r k c.args.a.now) (shape_given _ _ c.shape.ensures c.in_ok-rows.was) c.used_part.ensures
