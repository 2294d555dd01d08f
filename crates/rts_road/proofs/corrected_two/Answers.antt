-- `corrected_two` meets its contract: the definition at two states, written out.
use mathlib.Core.Path.{refl}
use Rattle.algebra.specs.Matrix.{sum_from, mul, matvec, transpose, add, sub, vec_add, vec_sub}
use Rattle.filtering.specs.Filter.{corrected_state}
use Rattle.smoothing.specs.Smoother.{smoothed_state, smoothed_covariance, smoothed_pair}
use Rattle.rts_road.proofs.corrected_two.Goals as goal

pub returns : goal.returns
unfolding sum_from mul matvec transpose add sub vec_add vec_sub corrected_state smoothed_state smoothed_covariance smoothed_pair
returns c = refl
