-- `corrected_state` meets its contract: all four components are made, and the used ones taken.
use mathlib.Core.Path.{◌∙◌}
use Rattle.sizes.proofs.Sizes.{bounds}
use Rattle.filtering.specs.Filter.{corrected_state}
use Rattle.four_states.proofs.Vectors.{vector_of_cut, vector_of_product, vector_of_sum, vector_leading}
use Rattle.steps.proofs.at_sizes.corrected_state.Goals as goal

pub returns : goal.returns
unfolding corrected_state
returns c =
    let N = bounds c.args.n in
    c.leading.ensures ∙ vector_leading (vector_of_sum (vector_of_cut _ N) (vector_of_product _ _ _ N c.row_product_transposed-ky.ensures) c.row_sum.ensures)
