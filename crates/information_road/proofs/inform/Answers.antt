-- `inform` meets its contract: the definition at two states and one measurement, written out.
use mathlib.Core.Path.{refl}
use Rattle.algebra.specs.Matrix.{sum_from, mul, matvec, transpose, add, vec_add}
use Rattle.filtering.specs.Information.{informed}
use Rattle.information_road.proofs.inform.Goals as goal

pub returns : goal.returns
unfolding sum_from mul matvec transpose add vec_add informed
returns c = refl
