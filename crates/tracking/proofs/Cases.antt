-- Every case, computed from the definitions. Assumes nothing.
use mathlib.Core.Path.{refl}
use Rattle.tracking.specs.Cases.{Cases}
use Rattle.tracking.proofs.Computing.{computing}

pub cases : Cases
unfolding computing
cases = record {
  bits = refl;
  sheet = refl;
  third = refl;
  one_reading = refl;
  no_reading = refl;
  filter-rejected = refl;
  smoother-rejected = refl;
  latest-rejected = refl;
  none-rejected = refl;
  slots-rejected = refl;
}
