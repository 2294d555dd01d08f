-- `pairwise` meets its contract: all four numbers are made, and the used ones taken.
use mathlib.Core.Path.{◌∙◌}
use Rattle.sizes.proofs.Sizes.{bounds}
use Rattle.rows.proofs.Kernels.{leading_pair}
use Rattle.kernel.proofs.pairwise.Goals as goal

pub returns : goal.returns
returns g c = c.leading.ensures ∙ leading_pair g.O.Operation.op _ _ _ _ (bounds c.args.n).most c.row_pairwise.ensures
