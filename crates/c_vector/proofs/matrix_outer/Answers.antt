-- `matrix_outer` meets its contract.
use mathlib.Core.Bool.{◌&&◌}
use Rattle.algebra.specs.Matrix.{outer}
use Rattle.algebra.proofs.Matrices.{shape-outer}
use Rattle.c_slices.proofs.Ways.{whole, whole_vector, read_vector, matrix-handed}
use Rattle.c_vector.proofs.matrix_outer.Goals as goal

pub returns : goal.returns
returns c =
    let a = c.args in
    let v = whole_vector a.r a.v.now c.vector.ensures c.in_ok-rows.was in
    let w = whole_vector a.c a.w.now c.vector-2.ensures c.in_ok-cols.was in
    let o = whole a.r a.c a.out.now c.matrix.ensures c.in_ok-matrix.was in
    matrix-handed a.out.now (λ i. v.is i && (w.is i && o.is i)) o.shape o.long v.rows w.rows
    (λ i. outer a.r a.c (read_vector v v.rows _ c.numbers_in-x.ensures i) (read_vector w w.rows _ c.numbers_in-y.ensures i))
    (shape-outer _ _ _ _) c.outer.ensures c.give_part.ensures
