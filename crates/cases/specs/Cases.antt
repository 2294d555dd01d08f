-- The table of worked cases, collected from the crates whose definitions they are about. Definitions only.
use Rattle.algebra.specs.Cases as Algebra
use Rattle.filtering.specs.Cases as Filtering
use Rattle.filtering.specs.Rust as FilteringRust
use Rattle.mixing.specs.Cases as Mixing
use Rattle.smoothing.specs.Cases as Smoothing

pub record Table : Type 0 where
  -- roots, products, inversion and Cholesky's factor
  pub algebra : Algebra.Cases
  -- the tracker, and what the refusals of the information and the square-root filter leave
  pub filtering : Filtering.Cases
  pub mixing : Mixing.Cases
  pub smoothing : Smoothing.Cases
  -- numbers that the running Rust gave
  pub filtering-rust : FilteringRust.Rust
  pub mixing-rust : Mixing.Rust
