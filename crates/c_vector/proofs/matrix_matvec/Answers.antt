-- `matrix_matvec` meets its contract.
use mathlib.Core.Bool.{◌&&◌}
use Rattle.algebra.specs.Matrix.{matvec}
use Rattle.algebra.proofs.Vectors.{length-matvec}
use Rattle.c_slices.proofs.Ways.{whole, whole_vector, seen, numbers, seen_vector, vector-made}
use Rattle.c_vector.proofs.matrix_matvec.Goals as goal

pub returns : goal.returns
returns c =
    let a = c.args in
    let m = whole a.r a.c a.a.now c.matrix.ensures c.in_ok-rows.was in
    let v = whole_vector a.c a.v.now c.vector.ensures c.in_ok-vector.was in
    let o = whole_vector a.r a.out.now c.vector-2.ensures c.in_ok-vector-2.was in
    vector-made a.out.now (λ i. m.is i && (v.is i && o.is i)) (numbers o) m.rows
    (λ i. matvec (m.rows i) (m.cols i) (seen m m.rows m.cols _ c.part_in-x.ensures i) (seen_vector v m.cols _ c.numbers_in-y.ensures i))
    (length-matvec _ _ _ _) c.product_vector.ensures c.put_vector.ensures
