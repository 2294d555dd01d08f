-- `reduce_rows` meets its contract: the loop has replaced the rows passed, all but row col, and left the others.
use native.Mathlib.Omega.{arith}
use Rattle.inverse.proofs.Rows.{reducing-all}
use Rattle.inverse.proofs.reduce_rows.Goals as goal

pub returns : goal.returns
returns c = reducing-all c.loop-i.invariant c.requires.1 (omega arith)
