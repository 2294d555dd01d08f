-- What the loop of `update` keeps.
use mathlib.Core.Path.{◌≡◌}
use Prim.Native.Nat.{◌-◌}
use Rattle.sizes.specs.Size.{count}
use Rattle.sqrt_steps.proofs.Updates.{Taking}
use Rattle.sqrt_steps.proofs.update.Given as goal

abbrev pub invariant-loop-i : goal.invariant-loop-i
invariant-loop-i l = (l.components ≡ count l.fn.m) × Taking l.n l.fn.m l.h l.r l.z l.initial.x l.initial.l l.i l.x l.l l.y

abbrev pub decreases-loop-i : goal.decreases-loop-i
decreases-loop-i l = l.components - l.i
