-- `scale` meets its contract: it is the used part of the rows that `scaled` makes.
use mathlib.Core.Path.{ap, ◌∙◌}
use Rattle.algebra.specs.Array.{used}
use Rattle.elementwise.proofs.Sized.{part_is}
use Rattle.elementwise.proofs.Cells.{used-scale}
use Rattle.elementwise.proofs.scale.Goals as goal

pub returns : goal.returns
returns c = part_is _ _ _ (λ h g. ap (used _ _) c.scaled-m.ensures ∙ used-scale _ _ _ _ h g) c.part_of.ensures
