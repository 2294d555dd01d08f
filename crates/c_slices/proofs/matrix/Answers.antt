-- `matrix` meets its contract: the product does not wrap where r and c are sizes.
use mathlib.Core.Path.{sym}
use native.Mathlib.Omega.{arith}
use Rattle.layout.proofs.Calls.{few}
use Rattle.matrix.proofs.Results.{shape_given}
use Rattle.c_slices.proofs.matrix.Goals as goal

pub overflow_mul-r : goal.overflow_mul-r
overflow_mul-r c =
    let s = shape_given _ _ c.shape.ensures c.in_ok-rows.was in
    record { fits = omega (arith, few _ _ (sym s.rows) (sym s.cols)) }
