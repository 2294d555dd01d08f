-- `gain` meets its contract: the definition at two states, written out.
use mathlib.Core.Path.{refl}
use Rattle.algebra.specs.Matrix.{sum_from, mul, transpose}
use Rattle.filtering.specs.Filter.{gain}
use Rattle.road.proofs.gain.Goals as goal

pub returns : goal.returns
unfolding sum_from mul transpose gain
returns c = refl
