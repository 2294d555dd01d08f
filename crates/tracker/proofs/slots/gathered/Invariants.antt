-- What the loop of `gathered` keeps.
use Prim.Native.Nat.{◌*◌}
use Rattle.scalar.specs.Number.{+0}
use Rattle.answer.proofs.Tables.{Filling}
use Rattle.algebra.specs.Matrix.{at}
use Rattle.tracker.proofs.slots.gathered.Given as goal

abbrev pub invariant-loop-k : goal.invariant-loop-k
invariant-loop-k l = Filling 64 +0 (λ i. at l.b (i * l.w)) l.count l.k l.out
