-- `matrix_filled` meets its contract.
use mathlib.Core.Path.{refl}
use Rattle.algebra.proofs.Matrices.{shape-filled}
use Rattle.c_slices.proofs.Ways.{whole, matrix-handed}
use Rattle.c_matrix.proofs.cells.matrix_filled.Goals as goal

pub returns : goal.returns
returns c =
    let a = c.args in
    let o = whole a.r a.c a.out.now c.matrix.ensures c.in_ok-rows.was in
    matrix-handed a.out.now o.is o.shape o.long o.rows o.cols refl (shape-filled _ _ _) c.filled.ensures c.give_part.ensures
