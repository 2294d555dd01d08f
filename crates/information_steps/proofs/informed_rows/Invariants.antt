-- What the loop of `informed_rows` keeps.
use Prim.Native.Nat.{◌-◌, ◌≤◌}
use mathlib.Core.Path.{◌≡◌}
use mathlib.Core.List.{[]}
use Rattle.algebra.specs.Matrix.{row}
use Rattle.algebra.proofs.Arrays.{Rows}
use Rattle.sizes.specs.Size.{count, part}
use Rattle.filtering.specs.Information.{informed}
use Rattle.information_steps.specs.Step.{information_rows}
use Rattle.information_steps.proofs.informed_rows.Given as goal

abbrev pub invariant-loop-i : goal.invariant-loop-i
invariant-loop-i l = ((l.i-end ≡ count l.n) × (l.i-end ≤ 4)) × Rows (λ i'. row (informed (count l.n) (count l.m) (part l.m l.n l.h) (part l.m l.m l.w) [] (information_rows l.n l.omega [])).matrix i') (count l.n) l.i l.out

abbrev pub decreases-loop-i : goal.decreases-loop-i
decreases-loop-i l = l.i-end - l.i
