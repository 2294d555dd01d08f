-- What the loop of `propagated` keeps.
use Prim.Native.Nat.{◌-◌, ◌≤◌}
use mathlib.Core.Path.{◌≡◌}
use Rattle.algebra.specs.Matrix.{row}
use Rattle.algebra.proofs.Arrays.{Rows}
use Rattle.sizes.specs.Size.{count, part}
use Rattle.filtering.specs.Filter.{propagated}
use Rattle.steps.proofs.at_sizes.propagated.Given as goal

abbrev pub invariant-loop-i : goal.invariant-loop-i
invariant-loop-i l = ((l.i-end ≡ count l.r) × (l.i-end ≤ 4)) × Rows (λ i'. row (propagated (count l.r) (count l.n) (part l.r l.n l.a) (part l.n l.n l.p) (part l.r l.r l.q)) i') (count l.r) l.i l.out

abbrev pub decreases-loop-i : goal.decreases-loop-i
decreases-loop-i l = l.i-end - l.i
