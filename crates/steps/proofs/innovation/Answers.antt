-- `innovation` meets its contract: the sizes that are written out are these sizes.
use Rattle.steps.proofs.innovation.Goals as goal

pub returns-in-Four-Two : goal.returns-in-Four-Two
returns-in-Four-Two c = rw (c.in-Four-Two.is-0, c.in-Four-Two.is-1) c.innovation.ensures
