-- `row_product_transposed` meets its contract: the columns of b are combined.
use Rattle.answer.specs.Table.{table}
use Rattle.algebra.specs.Matrix.{cell}
use Rattle.rows.specs.Row.{row_times_transposed}
use Rattle.rows.proofs.Kernels.{combination_is}
use Rattle.sizes.proofs.Sizes.{bounds}
use Rattle.rows.proofs.row_product_transposed.Goals as goal

pub returns : goal.returns
unfolding row_times_transposed
returns c =
    combination_is c.args.v (λ t. table 4 (λ j. cell c.args.b.now j t)) _ (bounds c.args.k).most c.column.ensures c.column-2.ensures c.column-3.ensures c.column-4.ensures c.combination.ensures
