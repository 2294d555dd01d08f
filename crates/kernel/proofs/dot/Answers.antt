-- `dot` meets its contract: a turn of the loop is a term of the sum, which starts at +0.
use mathlib.Core.Path.{refl, sym, ◌∙◌}
use Rattle.answer.proofs.Choice.{cond-true, cond-false}
use Rattle.algebra.specs.Matrix.{dot}
use Rattle.algebra.proofs.Matrices.{summing_none, summing_more, summing_all}
use borrow.Author.Tests.{le-leb, lt-leb}
use native.Mathlib.Omega.{arith}
use Rattle.kernel.proofs.dot.Goals as goal

pub loop-i-init : goal.loop-i-init
loop-i-init c = (c.if-n-le4.true, summing_none _ _ _)

pub loop-i-preserved : goal.loop-i-preserved
loop-i-preserved c = let v = c.loop-i.invariant in (v.0, summing_more v.1 (omega arith) refl)

pub returns-after-loop-i : goal.returns-after-loop-i
unfolding dot
returns-after-loop-i c = let v = c.loop-i.invariant in summing_all v.1 (omega arith) ∙ sym (cond-true _ _ (le-leb _ 4 v.0))
