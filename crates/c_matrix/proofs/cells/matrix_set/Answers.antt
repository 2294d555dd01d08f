-- `matrix_set` meets its contract: `set` tests the place.
use mathlib.Core.Bool.{◌&&◌}
use Rattle.algebra.specs.Matrix.{set_cell}
use Rattle.algebra.proofs.Matrices.{shape-set}
use Rattle.c_slices.proofs.Ways.{whole, read, matrix-where}
use Rattle.c_matrix.proofs.cells.matrix_set.Goals as goal

pub returns : goal.returns
returns c =
    let a = c.args in
    let w = whole a.r a.c a.a.now c.matrix.ensures c.in_ok-rows.was in
    let o = whole a.r a.c a.out.now c.matrix-2.ensures c.in_ok-matrix.was in
    matrix-where _ a.out.now (λ i. w.is i && o.is i) o.long w.rows w.cols
    (λ i. set_cell a.r a.c a.i a.j a.val (read w w.rows w.cols _ c.part_in-x.ensures i)) (shape-set _ _ _ _ _ _) c.set.ensures c.give_part.ensures
