-- What the loop of `steps` keeps.
use mathlib.Core.Path.{◌≡◌}
use Prim.Native.Nat.{◌-◌, ◌≤◌}
use Rattle.bench.specs.Steps.{steps_of}
use Rattle.bench.proofs.steps.Given as goal

abbrev pub invariant-loop-k : goal.invariant-loop-k
invariant-loop-k l = (l.k ≤ l.times) × (l.g ≡ steps_of l.k l.initial.g l.u l.i l.z l.m)

abbrev pub decreases-loop-k : goal.decreases-loop-k
decreases-loop-k l = l.times - l.k
