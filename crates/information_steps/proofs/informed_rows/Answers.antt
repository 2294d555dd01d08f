-- `informed_rows` meets its contract: a loop over the rows, each made by itself.
use Prim.Native.Nat.{ℕ, ◌<◌}
use native.Mathlib.Omega.{arith}
use mathlib.Core.Path.{subst}
use Rattle.algebra.proofs.Arrays.{rows_more, rows_all}
use Rattle.sizes.specs.Size.{count}
use Rattle.sizes.proofs.Sizes.{bounds}
use Rattle.rows.proofs.RowWise.{rows_are}
use Rattle.information_steps.proofs.Ways.{shape-informed}
use Rattle.information_steps.proofs.Additions.{informed-row}
use Rattle.information_steps.proofs.informed_rows.Goals as goal

pub loop-i-preserved : goal.loop-i-preserved
loop-i-preserved c =
    let v = c.loop-i.invariant in
    let x = c.args in
    let h : c.loop-i.i < count x.n = subst (λ (k : ℕ). c.loop-i.i < k) v.0.0 c.loop-i-test.true in
    let made = informed-row x.n x.m x.omega.now x.h.now x.w.now h c.transposed-ht.ensures c.row_product-htw.ensures c.row_product-htwh.ensures c.row_sum.ensures c.leading.ensures in
    (v.0, rows_more v.1 (bounds x.n).most h made)

pub returns : goal.returns
returns c = let v = c.loop-i.invariant in rows_all v.1 (omega (arith, v.0.0)) (rows_are (shape-informed _ _ _ _ _ _))
