-- What the loop of `write_matrix` keeps.
use Prim.Native.Nat.{◌≤◌}
use Rattle.algebra.specs.Matrix.{row}
use Rattle.sizes.specs.Size.{front}
use Rattle.layout.proofs.Loops.{Putting}
use Rattle.layout.proofs.write_matrix.Given as goal

abbrev pub invariant-loop-i : goal.invariant-loop-i
invariant-loop-i l = (l.rows ≤ 4) × Putting l.k l.columns (λ i'. front l.c (row l.m i')) l.initial.b l.rows l.i l.b
