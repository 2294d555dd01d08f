-- `matrix_vec_dot` meets its contract.
use mathlib.Core.Bool.{◌&&◌}
use Rattle.algebra.specs.Matrix.{dot}
use Rattle.c_slices.proofs.Ways.{whole_vector, read_vector, value_handed, paired-true}
use Rattle.c_vector.proofs.matrix_vec_dot.Goals as goal

pub returns : goal.returns
returns c =
    let a = c.args in
    let v = whole_vector a.n a.v.now c.vector.ensures c.in_ok-size.was in
    let w = whole_vector a.n a.w.now c.vector-2.ensures c.in_ok-vector.was in
    value_handed _ (λ i. v.is i && w.is i) (paired-true _ v.size)
    (λ i. dot a.n (read_vector v v.rows _ c.numbers_in-x.ensures i) (read_vector w v.rows _ c.numbers_in-y.ensures i))
    c.vec_dot.ensures c.give.ensures
