-- `as_the_rust` meets its contract: the rows, computed.
use Rattle.mixing.proofs.Cases.{rust}
use Rattle.mixing.proofs.as_the_rust.Goals as goal

pub returns : goal.returns
returns c = rust
