-- The text stands in its part of the output.
use Rattle.picture.proofs.Buffer.{stored_part}
use Rattle.picture.proofs.store.Goals as goal

pub returns : goal.returns
returns c = stored_part c.args.output.now c.args.at c.args.text.now c.copy_from_slice.new.self c.copy_from_slice.ensures.after c.requires
