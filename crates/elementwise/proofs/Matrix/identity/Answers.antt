-- `Matrix::identity` meets its contract: it is the used part of the identity of four rows.
use mathlib.Core.Path.{ap, ◌∙◌}
use mathlib.Core.Bool.{Bool}
use Rattle.answer.specs.Answer.{where_sized}
use Rattle.algebra.specs.Matrix.{identity}
use Rattle.algebra.specs.Array.{used}
use Rattle.algebra.proofs.Arrays.{identity-used}
use Rattle.matrix.specs.Result.{as_matrix}
use Rattle.elementwise.proofs.Sized.{part_is, shaped-square}
use Rattle.elementwise.proofs.Matrix.identity.Goals as goal

pub returns : goal.returns
returns c =
    let n = c.args.n in
    part_is n n _ (λ h g. ap (used n n) c.identity_rows-e.ensures ∙ identity-used n h) c.part_of.ensures
    ∙ ap (λ (t : Bool). as_matrix (where_sized t (identity n))) (shaped-square n)
