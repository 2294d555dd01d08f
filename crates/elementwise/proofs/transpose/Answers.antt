-- `transpose` meets its contract: the rows are the kernel's.
use Rattle.algebra.specs.Matrix.{transpose}
use Rattle.algebra.specs.Array.{used}
use Rattle.matrix.proofs.Results.{shape_given, matrix_at}
use Rattle.elementwise.proofs.transpose.Goals as goal

pub returns : goal.returns
returns c = matrix_at (λ r k. transpose r k (used r k c.args.a)) (shape_given _ _ c.shape.ensures c.in_ok-rows.was) c.transposed.ensures
