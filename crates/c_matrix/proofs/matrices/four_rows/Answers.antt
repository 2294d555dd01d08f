-- `four_rows` meets its contract.
use Rattle.c_matrix.proofs.Products.{rows_in}
use Rattle.c_matrix.proofs.matrices.four_rows.Goals as goal

pub returns : goal.returns
returns c r h e = rows_in r _ c.args.b.now h e c.row_in.ensures c.row_in-2.ensures c.row_in-3.ensures c.row_in-4.ensures
