-- `propagated` meets its contract: four states are written out; else a loop over the rows, each made by itself.
use Prim.Native.Nat.{ℕ, ◌<◌}
use native.Mathlib.Omega.{arith}
use mathlib.Core.Path.{subst}
use Rattle.algebra.proofs.Arrays.{rows_more, rows_all}
use Rattle.sizes.specs.Size.{count}
use Rattle.sizes.proofs.Sizes.{bounds}
use Rattle.rows.proofs.RowWise.{rows_are}
use Rattle.filtering.proofs.Shapes.{shape-propagated}
use Rattle.four_states.proofs.Parts.{propagated-row}
use Rattle.steps.proofs.at_sizes.propagated.Goals as goal

pub loop-i-preserved : goal.loop-i-preserved
loop-i-preserved c =
    let v = c.loop-i.invariant in
    let x = c.args in
    let h : c.loop-i.i < count x.r = subst (λ (k : ℕ). c.loop-i.i < k) v.0.0 c.loop-i-test.true in
    let made = propagated-row x.r x.n x.a.now x.p.now x.q.now h c.row_product-ap.ensures c.row_product_transposed-apat.ensures c.row_sum.ensures c.leading.ensures in
    (v.0, rows_more v.1 (bounds x.r).most h made)

pub returns : goal.returns
returns c = let v = c.loop-i.invariant in rows_all v.1 (omega (arith, v.0.0)) (rows_are (shape-propagated _ _ _ _ _))
