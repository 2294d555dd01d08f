-- `covariance` meets its contract: the definition at two states, written out.
use mathlib.Core.Path.{refl}
use Rattle.algebra.specs.Matrix.{sum_from, mul, transpose}
use Rattle.filtering.specs.SquareRoot.{covariance}
use Rattle.sqrt_road.proofs.covariance.Goals as goal

pub returns : goal.returns
unfolding sum_from mul transpose covariance
returns c = refl
