-- `epsilon_premise` keeps its promise: by computation.
use mathlib.Core.Path.{refl}
use lib.Ieee.{of_bits}
use borrow.Author.Tests.{ltb-true}
use Rattle.root.specs.Root.{as_whole}
use Rattle.scalar.proofs.epsilon_premise.Goals as goal

pub returns : goal.returns
unfolding as_whole of_bits
returns c = record { positive = ltb-true _ _ refl; small = ltb-true _ _ refl }
