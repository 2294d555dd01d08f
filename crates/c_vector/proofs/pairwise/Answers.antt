-- `pairwise` meets its contract.
use mathlib.Core.Bool.{◌&&◌}
use Rattle.answer.proofs.Tables.{length-table}
use Rattle.rows.specs.Row.{pairwise}
use Rattle.c_slices.proofs.Ways.{whole_vector, numbers, seen_vector, vector-made}
use Rattle.c_vector.proofs.pairwise.Goals as goal

pub returns : goal.returns
returns g c =
    let a = c.args in
    let v = whole_vector a.n a.v.now c.vector.ensures c.in_ok-size.was in
    let w = whole_vector a.n a.w.now c.vector-2.ensures c.in_ok-vector.was in
    let o = whole_vector a.n a.out.now c.vector-3.ensures c.in_ok-vector-2.was in
    let N = v.rows in
    vector-made a.out.now (λ i. v.is i && (w.is i && o.is i)) (numbers o) N
    (λ i. pairwise g.O.Operation.op (N i) (seen_vector v N _ c.numbers_in-x.ensures i) (seen_vector w N _ c.numbers_in-y.ensures i))
    (length-table _ _) c.pairwise.ensures c.put_vector.ensures
