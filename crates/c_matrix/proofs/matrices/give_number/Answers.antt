-- `give_number` meets its contract: it is the one number of the slice.
use Rattle.c_slices.proofs.Ways.{single_given}
use Rattle.c_matrix.proofs.matrices.give_number.Goals as goal

pub returns : goal.returns
returns c = single_given c.args.out.now _ _ c.requires c.give.ensures
