-- `one_model` meets its contract: the laws.
use Rattle.mixing.proofs.Laws.{laws}
use Rattle.mixing.proofs.one_model.Goals as goal

pub returns : goal.returns
returns c = laws
