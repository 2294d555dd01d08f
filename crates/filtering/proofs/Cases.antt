-- Every case, and every row of the Rust's numbers, computed from the definitions. Assumes nothing.
use mathlib.Core.Path.{refl}
use Rattle.filtering.specs.Cases.{Cases}
use Rattle.filtering.specs.Rust.{Rust}
use Rattle.filtering.proofs.Computing.{computing}

pub cases : Cases
unfolding computing
cases = record {
  bits_of_tracker = refl;
  tracking = refl;
  linear-refused = refl;
  information_added = refl;
  information-noise = refl;
  information-after = refl;
  root-downdate = refl;
  root-predict = refl;
  root-variance = refl;
  root-second = refl;
  root-taken = refl;
  root_nan = refl;
}

pub rust : Rust
unfolding computing
rust = record { root-predict = refl; root-update = refl; root-half = refl; information-predict = refl; information-update = refl }
