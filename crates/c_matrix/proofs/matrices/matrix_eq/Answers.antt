-- `matrix_eq` meets its contract.
use mathlib.Core.Bool.{◌&&◌}
use Rattle.algebra.specs.Matrix.{equal}
use Rattle.c_slices.proofs.Ways.{whole, read, value_handed, alike-true}
use Rattle.c_matrix.proofs.matrices.matrix_eq.Goals as goal

pub returns : goal.returns
returns c =
    let a = c.args in
    let w = whole a.r a.c a.a.now c.matrix.ensures c.in_ok-rows.was in
    let v = whole a.r a.c a.b.now c.matrix-2.ensures c.in_ok-matrix.was in
    value_handed _ (λ i. w.is i && v.is i) (alike-true _ _ w.shape)
    (λ i. equal a.r a.c (read w w.rows w.cols _ c.part_in-x.ensures i) (read v w.rows w.cols _ c.part_in-y.ensures i)) c.eq.ensures c.give.ensures
