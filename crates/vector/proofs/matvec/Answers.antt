-- `matvec` meets its contract: the sizes of a call whose test is passed are those of the kernel.
use mathlib.Core.Path.{ap}
use Rattle.std.specs.Prelude.{Ok}
use Rattle.algebra.specs.Matrix.{matvec}
use Rattle.algebra.specs.Array.{cut, used}
use Rattle.matrix.specs.Result.{as_vector}
use Rattle.matrix.proofs.Results.{applied_given, at_shape}
use Rattle.vector.proofs.matvec.Goals as goal

pub returns : goal.returns
returns c =
    let a = c.args in
    let s = applied_given _ _ _ c.applied.ensures c.in_ok-rows.was in
    at_shape as_vector (λ r c. matvec r c (used r c a.a) (cut c a.v)) s (ap Ok c.product_vector.ensures)
