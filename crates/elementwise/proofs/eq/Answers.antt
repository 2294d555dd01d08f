-- `eq` meets its contract: the yes or no is `equal_rows`'.
use mathlib.Core.Path.{ap}
use Rattle.std.specs.Prelude.{Ok}
use Rattle.algebra.specs.Matrix.{equal}
use Rattle.algebra.specs.Array.{used}
use Rattle.matrix.proofs.Results.{alike_given, at_shape}
use Rattle.elementwise.proofs.eq.Goals as goal

pub returns : goal.returns
returns c =
    let a = c.args in
    at_shape (λ o. o) (λ r c. equal r c (used r c a.a) (used r c a.b)) (alike_given _ _ _ _ c.alike.ensures c.in_ok-r.was) (ap Ok c.equal_rows.ensures)
