-- `predicted_state` meets its contract: all four components are made, and the used ones taken.
use mathlib.Core.Path.{◌∙◌}
use Rattle.sizes.proofs.Sizes.{bounds}
use Rattle.filtering.specs.Filter.{predicted_state}
use Rattle.four_states.proofs.Vectors.{vector_of_product, vector_of_sum, vector_leading}
use Rattle.steps.proofs.at_sizes.predicted_state.Goals as goal

pub returns : goal.returns
unfolding predicted_state
returns c =
    let N = bounds c.args.n in
    c.leading.ensures ∙ vector_leading (vector_of_sum (vector_of_product _ _ _ N c.row_product_transposed-ax.ensures) (vector_of_product _ _ _ N c.row_product_transposed-bu.ensures) c.row_sum.ensures)
