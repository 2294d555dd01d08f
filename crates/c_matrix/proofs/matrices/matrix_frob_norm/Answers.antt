-- `matrix_frob_norm` meets its contract.
use Rattle.algebra.specs.Matrix.{frob_norm}
use Rattle.c_slices.proofs.Ways.{whole, read, value_handed}
use Rattle.c_matrix.proofs.matrices.matrix_frob_norm.Goals as goal

pub returns : goal.returns
returns c =
    let a = c.args in
    let w = whole a.r a.c a.a.now c.matrix.ensures c.in_ok-rows.was in
    value_handed _ w.is w.shape (λ i. frob_norm a.r a.c (read w w.rows w.cols _ c.part_in.ensures i)) c.frob_norm.ensures c.give.ensures
