-- `sweep` meets its contract: by the test of the pivot that was brought to the diagonal.
use mathlib.Core.Path.{sym, ◌∙◌}
use Rattle.sizes.proofs.Sizes.{bounds}
use Rattle.inverse.proofs.Elimination.{swept_not, swept}
use Rattle.inverse.proofs.sweep.Goals as goal

pub returns-then-no_pivot : goal.returns-then-no_pivot
returns-then-no_pivot c =
    let pre = c.requires in
    swept_not (bounds c.args.n).most pre.0 pre.1 pre.2 c.bring_pivot.ensures (sym c.no_pivot.ensures ∙ c.if-no_pivot.true)

pub returns : goal.returns
returns c =
    let pre = c.requires in
    swept (bounds c.args.n).most pre.0 pre.1 pre.2 c.bring_pivot.ensures (sym c.no_pivot.ensures ∙ c.if-no_pivot.false) c.clear_column.ensures
