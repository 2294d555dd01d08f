-- `sum_of_squares` meets its contract: a turn adds the squares of one row (`Squaring`).
use mathlib.Core.Path.{ap, ◌∙◌}
use mathlib.Core.List.{List, []}
use native.Mathlib.Omega.{arith}
use lib.ListN.{take}
use lib.Ieee.{Float}
use Rattle.std.proofs.lemmas.List.{get_or_default, length-take-le}
use Rattle.scalar.specs.Number.{◌⊗◌}
use Rattle.algebra.specs.Matrix.{at, sum_from, squares}
use Rattle.sizes.specs.Size.{count}
use Rattle.sizes.proofs.Sizes.{bounds}
use Rattle.elementwise.proofs.Cells.{squaring_none, squaring_more, squaring_all, used-front}
use Rattle.elementwise.proofs.sum_of_squares.Goals as goal

pub loop-row-init : goal.loop-row-init
loop-row-init c = squaring_none _ _ _

pub loop-row-preserved : goal.loop-row-preserved
loop-row-preserved c =
    squaring_more c.loop-row.invariant c.loop-row-test.true
    (c.squares_row-s.ensures
    ∙ ap (λ (v : List Float). sum_from c.loop-row.s (count c.args.c) (λ j. at v j ⊗ at v j)) (get_or_default (take c.from.result c.args.a.now) c.loop-row.row-index _ [] c.loop-row-test.true))

pub returns : goal.returns
returns c =
    let a = c.args in
    let few = (bounds a.r).most in
    squaring_all c.loop-row.invariant c.loop-row-test.false (length-take-le c.from.result a.a.now (omega (arith, c.from.ensures)) ∙ c.from.ensures)
    ∙ ap (squares (count a.r) (count a.c)) (used-front c.from.result (count a.r) (count a.c) a.a.now c.from.ensures)
