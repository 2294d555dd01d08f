-- `innovation` meets its contract: all four components are made, and the used ones taken.
use mathlib.Core.Path.{◌∙◌}
use Rattle.sizes.proofs.Sizes.{bounds}
use Rattle.filtering.specs.Filter.{innovation}
use Rattle.four_states.proofs.Vectors.{vector_of_cut, vector_of_product, vector_of_difference, vector_leading}
use Rattle.steps.proofs.at_sizes.innovation.Goals as goal

pub returns : goal.returns
unfolding innovation
returns c =
    let M = bounds c.args.m in
    c.leading.ensures ∙ vector_leading (vector_of_difference (vector_of_cut _ M) (vector_of_product _ _ _ M c.row_product_transposed-hx.ensures) c.row_difference.ensures)
