-- `correctly_rounded` keeps its promise: the law of the root.
use Rattle.root.proofs.Law.{correctly_rounded}
use Rattle.root.proofs.correctly_rounded.Goals as goal

pub returns : goal.returns
returns c = correctly_rounded
