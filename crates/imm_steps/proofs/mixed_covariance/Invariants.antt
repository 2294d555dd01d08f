-- What the loop of `mixed_covariance` keeps.
use Prim.Native.Nat.{◌-◌, ◌≤◌}
use mathlib.Core.Path.{◌≡◌}
use mathlib.Core.List.{[]}
use Rattle.answer.specs.Table.{table}
use Rattle.algebra.specs.Matrix.{sum_of}
use Rattle.algebra.proofs.Arrays.{Rows}
use Rattle.sizes.specs.Size.{count}
use Rattle.imm_steps.proofs.Banks.{spread_at}
use Rattle.imm_steps.proofs.mixed_covariance.Given as goal

abbrev pub invariant-loop-r : goal.invariant-loop-r
invariant-loop-r l =
    ((l.rows ≡ count l.n) × (l.rows ≤ 4)) × Rows (λ r'. table (count l.n) (λ c. sum_of (count l.k) (spread_at (count l.n) (count l.k) l.x l.p [] [] l.w l.m r' c))) (count l.n) l.r l.out

abbrev pub decreases-loop-r : goal.decreases-loop-r
decreases-loop-r l = l.rows - l.r
