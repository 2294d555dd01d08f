-- `diagonal_sum` meets its contract: a turn adds one cell of the diagonal (`Summing`).
use Prim.Native.Nat.{ℕ}
use mathlib.Core.Path.{refl, sym, ap, ◌∙◌}
use native.Mathlib.Omega.{arith}
use Rattle.algebra.specs.Matrix.{trace}
use Rattle.algebra.specs.Array.{used}
use Rattle.algebra.proofs.Matrices.{summing_none, summing_more, summing_all}
use Rattle.sizes.proofs.Sizes.{bounds}
use Rattle.elementwise.proofs.Cells.{trace-used}
use Rattle.elementwise.proofs.diagonal_sum.Goals as goal

pub loop-i-init : goal.loop-i-init
loop-i-init c = (omega (arith, c.from-rows.ensures, bounds c.args.n), summing_none _ _ _)

pub loop-i-preserved : goal.loop-i-preserved
loop-i-preserved c = let v = c.loop-i.invariant in (v.0, summing_more v.1 (omega arith) refl)

pub returns : goal.returns
returns c =
    summing_all c.loop-i.invariant.1 (omega arith) ∙ sym (trace-used _ _) ∙ ap (λ (n : ℕ). trace n (used n n c.args.a.now)) c.from-rows.ensures
