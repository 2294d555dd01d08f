-- Every case, computed from the definitions. Assumes nothing.
use mathlib.Core.Path.{refl}
use Rattle.algebra.specs.Cases.{Cases}
use Rattle.algebra.proofs.Computing.{computing}

pub cases : Cases
unfolding computing
cases = record {
  bits = refl;
  bits-whole = refl;
  bits-parts = refl;
  root_of_4 = refl;
  root_of_2 = refl;
  root_of_smallest = refl;
  root_of_minus-zero = refl;
  mul_of_minus-zero = refl;
  inv-turned = refl;
  inv_singular = refl;
  inv_of_nan = refl;
  inv-first = refl;
  pivot_nan_below = refl;
  pivot_nan_above = refl;
  limit_is = refl;
  pivot_at_limit = refl;
  pivot-below-limit = refl;
  cholesky-lower = refl;
  cholesky_not_positive = refl;
  cholesky_of_nan = refl;
  cholesky-sum = refl;
}
