-- `corrected` meets its contract: the definition at two states and one measurement, written out.
use mathlib.Core.Path.{refl}
use Rattle.algebra.specs.Matrix.{sum_from, mul, matvec, transpose, sub, identity, vec_add}
use Rattle.filtering.specs.Filter.{gain, corrected_state, corrected_covariance}
use Rattle.road.proofs.Sensor.corrected.Goals as goal

pub returns : goal.returns
unfolding sum_from mul matvec transpose sub identity vec_add gain corrected_state corrected_covariance
returns c = refl
