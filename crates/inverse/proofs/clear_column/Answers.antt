-- `clear_column` meets its contract: each call does to the used parts what the definition does there, and leaves four rows.
use Rattle.inverse.proofs.Elimination.{turn}
use Rattle.inverse.proofs.clear_column.Goals as goal

pub returns : goal.returns
returns c =
    let pre = c.requires in
    turn pre.1 pre.2 c.scale_row.ensures c.scale_row-2.ensures c.column_of-f.ensures c.reduce_rows.ensures c.reduce_rows-2.ensures
