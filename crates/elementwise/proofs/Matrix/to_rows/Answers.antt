-- `Matrix::to_rows` meets its contract: it is the used part of the rows that stand flat.
use mathlib.Core.Path.{ap, ◌∙◌}
use Rattle.algebra.specs.Array.{used}
use Rattle.algebra.proofs.Arrays.{used-rows_of_flat}
use Rattle.elementwise.proofs.Sized.{part_is}
use Rattle.elementwise.proofs.Matrix.to_rows.Goals as goal

pub returns : goal.returns
returns c = part_is _ _ _ (λ h g. ap (used _ _) c.from_flat-a.ensures ∙ used-rows_of_flat _ _ _ h g) c.part_of.ensures
