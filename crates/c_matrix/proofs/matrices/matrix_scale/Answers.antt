-- `matrix_scale` meets its contract.
use mathlib.Core.Bool.{◌&&◌}
use Rattle.algebra.specs.Matrix.{scale}
use Rattle.algebra.proofs.Matrices.{shape-scale}
use Rattle.c_slices.proofs.Ways.{whole, read, matrix-handed}
use Rattle.c_matrix.proofs.matrices.matrix_scale.Goals as goal

pub returns : goal.returns
returns c =
    let a = c.args in
    let w = whole a.r a.c a.a.now c.matrix.ensures c.in_ok-rows.was in
    let o = whole a.r a.c a.out.now c.matrix-2.ensures c.in_ok-matrix.was in
    matrix-handed a.out.now (λ i. w.is i && o.is i) w.shape o.long w.rows w.cols
    (λ i. scale a.r a.c (read w w.rows w.cols _ c.part_in-x.ensures i) a.s) (shape-scale _ _ _ _) c.scale.ensures c.give_part.ensures
