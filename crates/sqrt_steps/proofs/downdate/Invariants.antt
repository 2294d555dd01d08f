-- What the loop of `downdate` keeps.
use mathlib.Core.Path.{◌≡◌}
use Prim.Native.Nat.{◌-◌}
use Rattle.sizes.specs.Size.{count}
use Rattle.sqrt_steps.proofs.Downdates.{Turning}
use Rattle.sqrt_steps.proofs.downdate.Given as goal

abbrev pub invariant-loop-k : goal.invariant-loop-k
invariant-loop-k l = (l.columns ≡ count l.n) × Turning l.n l.initial.l l.initial.w l.k l.l l.w

abbrev pub decreases-loop-k : goal.decreases-loop-k
decreases-loop-k l = l.columns - l.k
