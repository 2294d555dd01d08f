-- `matrix_get` meets its contract: `get` tests the place.
use Rattle.algebra.specs.Matrix.{cell}
use Rattle.c_slices.proofs.Ways.{whole, read, value_where}
use Rattle.c_matrix.proofs.cells.matrix_get.Goals as goal

pub returns : goal.returns
returns c =
    let a = c.args in
    let w = whole a.r a.c a.a.now c.matrix.ensures c.in_ok-rows.was in
    value_where _ _ w.is (λ i. cell (read w w.rows w.cols _ c.part_in.ensures i) a.i a.j) c.get.ensures c.give.ensures
