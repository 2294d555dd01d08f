-- Every case, computed from the definitions. Assumes nothing.
use mathlib.Core.Path.{refl}
use Rattle.smoothing.specs.Cases.{Cases}
use Rattle.smoothing.proofs.Computing.{computing}

pub cases : Cases
unfolding computing
cases = record { smoothing = refl; smoothing-rejected = refl; smoothing_no_slot = refl }
