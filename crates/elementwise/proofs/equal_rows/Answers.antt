-- `equal_rows` meets its contract: the rows passed are equal (`Passing`), and one that is not settles it.
use mathlib.Core.Path.{sym, ◌∙◌}
use native.Mathlib.Omega.{arith}
use Rattle.sizes.proofs.Sizes.{bounds}
use Rattle.elementwise.proofs.Cells.{passing_none, passing_more, passing_all, every_not, equal-used}
use Rattle.elementwise.proofs.equal_rows.Goals as goal

pub loop-i-init : goal.loop-i-init
loop-i-init c = (omega (arith, c.from-rows.ensures, bounds c.args.r), passing_none _ _)

pub returns-then-not-equal_row : goal.returns-then-not-equal_row
returns-then-not-equal_row c =
    every_not _ _ c.loop-i.i (omega (arith, c.from-rows.ensures)) (sym c.equal_row.ensures ∙ c.if-not-equal_row.true)
    ∙ sym (equal-used _ _ _ _)

pub loop-i-preserved : goal.loop-i-preserved
loop-i-preserved c =
    let v = c.loop-i.invariant in
    (v.0, passing_more v.1 (omega arith) (sym c.equal_row.ensures ∙ c.if-not-equal_row.false))

pub returns : goal.returns
returns c = passing_all c.loop-i.invariant.1 (omega arith) c.from-rows.ensures ∙ sym (equal-used _ _ _ _)
