-- `mixed` meets its contract: the definition at two states and two models, written out.
use mathlib.Core.Path.{refl}
use Rattle.algebra.specs.Matrix.{sum_from, vec_sub}
use Rattle.mixing.specs.Mixing.{weighted, spread, mixed_covariance, mixed_estimate}
use Rattle.imm_road.proofs.mixed.Goals as goal

pub returns : goal.returns
unfolding sum_from vec_sub weighted spread mixed_covariance mixed_estimate
returns c = λ m n. refl
