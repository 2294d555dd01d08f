-- `weighted` meets its contract: the weights times the states, in all four columns, and the used ones taken.
use mathlib.Core.Path.{sym, ap, ◌∙◌}
use mathlib.Core.List.{[]}
use Rattle.scalar.specs.Number.{◌⊗◌}
use Rattle.algebra.specs.Matrix.{at, cell, sum_of}
use Rattle.algebra.specs.Array.{cut, pad_row}
use Rattle.sizes.specs.Size.{count}
use Rattle.rows.specs.Row.{row_times}
use Rattle.rows.proofs.Kernels.{leading_row}
use Rattle.sizes.proofs.Sizes.{bounds}
use Rattle.imm_steps.proofs.Banks.{weighted-used}
use Rattle.imm_steps.proofs.weighted.Goals as goal

pub returns : goal.returns
unfolding row_times
returns c =
    let a = c.args in
    let K = count a.k in
    let n = count a.n in
    c.leading.ensures
    ∙ leading_row n (λ r. sum_of K (λ i. at a.w i ⊗ cell a.x.now i r)) _ (bounds a.n).most c.row_product.ensures
    ∙ ap pad_row (sym (weighted-used n K a.x.now [] (cut K []) (cut K []) a.w))
