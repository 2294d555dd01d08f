-- `product_vector` meets its contract: all four components are made, and the used ones taken.
use mathlib.Core.Path.{sym, ap, ◌∙◌}
use Rattle.algebra.specs.Array.{pad_row}
use Rattle.algebra.proofs.Arrays.{matvec_transposed_used}
use Rattle.rows.specs.Row.{row_times_transposed}
use Rattle.sizes.proofs.Sizes.{bounds}
use Rattle.rows.proofs.Kernels.{leading_row}
use Rattle.kernel.proofs.product_vector.Goals as goal

pub returns : goal.returns
unfolding row_times_transposed
returns c =
    let x = c.args in
    c.leading.ensures ∙ leading_row _ _ _ (bounds x.r).most c.row_product_transposed.ensures ∙ ap pad_row (sym (matvec_transposed_used _ _ _ _))
