-- `Matrix::filled` meets its contract: it is the used part of an array with the number in all places.
use Rattle.elementwise.proofs.Sized.{part_is}
use Rattle.elementwise.proofs.Cells.{used-filled}
use Rattle.elementwise.proofs.Matrix.filled.Goals as goal

pub returns : goal.returns
returns c = part_is _ _ _ (used-filled _ _ _) c.part_of.ensures
