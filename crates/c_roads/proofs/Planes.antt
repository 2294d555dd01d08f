-- Four states, two measurements and two inputs: what their test says. Assumes nothing.
use mathlib.Core.Path.{◌≡◌, sym}
use mathlib.Core.Bool.{true}
use Prim.Native.Nat.{ℕ}
use lib.Dec.{eqb}
use borrow.Author.Tests.{eqb-true}
use Rattle.answer.proofs.Choice.{and_left, and_right}
use Rattle.c_roads.specs.Plane.{is_plane}

pub record Plane (n m i : ℕ) : Type 0 where
  pub states : 4 ≡ n
  pub measurements : 2 ≡ m
  pub inputs : 2 ≡ i

pub plane_of : (n m i : ℕ) → is_plane n m i ≡ true → Plane n m i
unfolding is_plane
plane_of n m i e =
    let r = and_right (eqb n 4) _ e in
    record {
      states = sym (eqb-true n 4 (and_left _ _ e));
      measurements = sym (eqb-true m 2 (and_left _ _ r));
      inputs = sym (eqb-true i 2 (and_right (eqb m 2) _ r));
    }
