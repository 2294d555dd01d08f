-- What the loop of `corrected_covariance` keeps.
use Prim.Native.Nat.{◌-◌, ◌≤◌}
use mathlib.Core.Path.{◌≡◌}
use Rattle.algebra.specs.Matrix.{row}
use Rattle.algebra.proofs.Arrays.{Rows}
use Rattle.sizes.specs.Size.{count, part}
use Rattle.filtering.specs.Filter.{corrected_covariance}
use Rattle.steps.proofs.corrected_covariance.Given as goal

abbrev pub invariant-loop-i : goal.invariant-loop-i
invariant-loop-i l = ((l.i-end ≡ count l.n) × (l.i-end ≤ 4)) × Rows (λ i'. row (corrected_covariance (count l.n) (count l.m) (part l.n l.m l.k) (part l.m l.n l.h) (part l.n l.n l.p)) i') (count l.n) l.i l.out

abbrev pub decreases-loop-i : goal.decreases-loop-i
decreases-loop-i l = l.i-end - l.i
