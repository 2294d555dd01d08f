-- `cellwise` meets its contract: all sixteen cells are made, and the used ones taken.
use mathlib.Core.Path.{◌∙◌}
use Rattle.rows.proofs.Kernels.{leading_both}
use Rattle.kernel.proofs.cellwise.Goals as goal

pub returns : goal.returns
returns g c =
    c.leading_rows.ensures
    ∙ leading_both g.O.Operation.op c.args.r c.args.c _ _ c.row_pairwise-r0.ensures c.row_pairwise-r1.ensures c.row_pairwise-r2.ensures c.row_pairwise-r3.ensures
