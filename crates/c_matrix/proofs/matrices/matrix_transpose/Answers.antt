-- `matrix_transpose` meets its contract.
use mathlib.Core.Bool.{◌&&◌}
use Rattle.algebra.specs.Matrix.{transpose}
use Rattle.algebra.proofs.Matrices.{shape-transpose}
use Rattle.c_slices.proofs.Ways.{whole, seen, matrix-made}
use Rattle.c_matrix.proofs.matrices.matrix_transpose.Goals as goal

pub returns : goal.returns
returns c =
    let a = c.args in
    let w = whole a.r a.c a.a.now c.matrix.ensures c.in_ok-rows.was in
    let o = whole a.c a.r a.out.now c.matrix-2.ensures c.in_ok-matrix.was in
    matrix-made a.out.now (λ i. w.is i && o.is i) o.long w.cols w.rows
    (λ i. transpose (w.rows i) (w.cols i) (seen w w.rows w.cols _ c.part_in-x.ensures i))
    (shape-transpose _ _ _) c.transposed.ensures c.put_matrix.ensures
