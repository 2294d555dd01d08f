-- `predict` meets its contract: the definition at two states and one input, written out.
use mathlib.Core.Path.{refl}
use Rattle.algebra.specs.Matrix.{sum_from, mul, matvec, transpose, add, vec_add}
use Rattle.filtering.specs.Filter.{predicted_state, propagated}
use Rattle.filtering.specs.Linear.{predict}
use Rattle.road.proofs.Motion.predict.Goals as goal

pub returns : goal.returns
unfolding sum_from mul matvec transpose add vec_add predicted_state propagated predict
returns c = refl
