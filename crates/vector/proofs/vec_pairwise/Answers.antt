-- `vec_pairwise` meets its contract: the numbers are the kernel's.
use Rattle.algebra.specs.Array.{cut}
use Rattle.rows.specs.Row.{pairwise}
use Rattle.matrix.proofs.Results.{pair_given, vector_at}
use Rattle.vector.proofs.vec_pairwise.Goals as goal

pub returns : goal.returns
returns g c =
    let a = c.args in
    vector_at (λ n. pairwise g.O.Operation.op n (cut n a.a) (cut n a.b)) (pair_given _ _ c.pair.ensures c.in_ok-k.was) c.pairwise.ensures
