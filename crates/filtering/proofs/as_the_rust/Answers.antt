-- `as_the_rust` meets its contract: the rows, computed.
use Rattle.filtering.proofs.Cases.{rust}
use Rattle.filtering.proofs.as_the_rust.Goals as goal

pub returns : goal.returns
returns c = rust
