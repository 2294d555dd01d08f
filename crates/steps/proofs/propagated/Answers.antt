-- `propagated` meets its contract: the sizes that are written out are these sizes.
use Rattle.steps.proofs.propagated.Goals as goal

pub returns-in-Four-Four : goal.returns-in-Four-Four
returns-in-Four-Four c = rw (c.in-Four-Four.is-0, c.in-Four-Four.is-1) c.propagated.ensures
