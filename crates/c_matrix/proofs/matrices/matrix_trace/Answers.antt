-- `matrix_trace` meets its contract.
use Rattle.algebra.specs.Matrix.{trace}
use Rattle.c_slices.proofs.Ways.{whole, read, value_handed}
use Rattle.c_matrix.proofs.matrices.matrix_trace.Goals as goal

pub returns : goal.returns
returns c =
    let a = c.args in
    let w = whole a.n a.n a.a.now c.matrix.ensures c.in_ok-size.was in
    value_handed _ w.is w.size (λ i. trace a.n (read w w.rows w.rows _ c.part_in.ensures i)) c.trace.ensures c.give.ensures
