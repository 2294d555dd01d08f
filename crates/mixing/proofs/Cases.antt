-- Every case, and every row of the Rust's numbers, computed from the definitions. Assumes nothing.
use mathlib.Core.Path.{refl}
use Rattle.mixing.specs.Cases.{Cases, Rust}
use Rattle.mixing.proofs.Computing.{computing}

pub cases : Cases
unfolding computing
cases = record {
  mixing = refl;
  mixing_degenerate = refl;
  mixing_at_limit = refl;
  mixing-above-limit = refl;
  mixing_nan = refl;
  mixing_overflow = refl;
  sum_at_limit = refl;
  sum_nan = refl;
  third = refl;
  one-model = refl;
  mixing-fused = refl;
}

pub rust : Rust
unfolding computing
rust = record { mixing = refl; probabilities = refl; fused = refl }
