-- What the loop of `read_matrix` keeps.
use Prim.Native.Nat.{◌+◌, ◌*◌, ◌≤◌}
use Rattle.algebra.proofs.Arrays.{Rows}
use Rattle.sizes.specs.Size.{count}
use Rattle.layout.specs.Layout.{vector_at}
use Rattle.layout.proofs.read_matrix.Given as goal

abbrev pub invariant-loop-i : goal.invariant-loop-i
invariant-loop-i l = (l.rows ≤ 4) × Rows (λ i'. vector_at (count l.c) l.b (l.k + i' * l.columns)) l.rows l.i l.out
