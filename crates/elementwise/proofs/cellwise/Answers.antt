-- `cellwise` meets its contract: the rows are the kernel's.
use Rattle.algebra.specs.Array.{used}
use Rattle.rows.specs.Row.{cellwise}
use Rattle.matrix.proofs.Results.{alike_given, matrix_at}
use Rattle.elementwise.proofs.cellwise.Goals as goal

pub returns : goal.returns
returns g c =
    let a = c.args in
    matrix_at (λ r c. cellwise g.O.Operation.op r c (used r c a.a) (used r c a.b)) (alike_given _ _ _ _ c.alike.ensures c.in_ok-r.was) c.cellwise.ensures
