-- `squares_row` meets its contract: a turn adds one square (`Summing`).
use mathlib.Core.Path.{refl, ◌∙◌}
use native.Mathlib.Omega.{arith}
use Rattle.algebra.proofs.Matrices.{summing_none, summing_more, summing_all}
use Rattle.sizes.proofs.Sizes.{bounds}
use Rattle.elementwise.proofs.Cells.{squares-front}
use Rattle.elementwise.proofs.squares_row.Goals as goal

pub loop-x-init : goal.loop-x-init
loop-x-init c = summing_none _ _ _

pub loop-x-preserved : goal.loop-x-preserved
loop-x-preserved c = summing_more c.loop-x.invariant c.loop-x-test.true refl

pub returns : goal.returns
returns c =
    let few = (bounds c.args.n).most in
    summing_all c.loop-x.invariant (omega arith) ∙ squares-front _ _ c.args.v c.args.s (omega (arith, c.from.ensures)) c.from.ensures
