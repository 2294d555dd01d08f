-- `predicted` meets its contract: the probabilities times the transition, in all four columns, and the used ones taken.
use mathlib.Core.Path.{sym, ap, ◌∙◌}
use Rattle.algebra.specs.Matrix.{sum_of}
use Rattle.algebra.specs.Array.{pad_row}
use Rattle.sizes.specs.Size.{count}
use Rattle.rows.specs.Row.{row_times}
use Rattle.rows.proofs.Kernels.{leading_row}
use Rattle.sizes.proofs.Sizes.{bounds}
use Rattle.imm_steps.proofs.Banks.{share, predicted-used}
use Rattle.imm_steps.proofs.predicted.Goals as goal

pub returns : goal.returns
unfolding row_times
returns c =
    let a = c.args in
    let K = count a.k in
    c.leading.ensures
    ∙ leading_row K (λ j. sum_of K (share K a.t.now a.mu j)) _ (bounds a.k).most c.row_product.ensures
    ∙ ap pad_row (sym (predicted-used K a.t.now a.mu))
