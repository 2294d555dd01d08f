-- `matrix_vec_norm` meets its contract.
use Rattle.algebra.specs.Matrix.{vec_norm}
use Rattle.c_slices.proofs.Ways.{whole_vector, read_vector, value_handed}
use Rattle.c_vector.proofs.matrix_vec_norm.Goals as goal

pub returns : goal.returns
returns c =
    let a = c.args in
    let v = whole_vector a.n a.v.now c.vector.ensures c.in_ok-size.was in
    value_handed _ v.is v.size (λ i. vec_norm a.n (read_vector v v.rows _ c.numbers_in.ensures i)) c.vec_norm.ensures c.give.ensures
