-- `mixed_covariance` meets its contract: a loop over the rows, each made by itself.
use Prim.Native.Nat.{ℕ, ◌<◌}
use native.Mathlib.Omega.{arith}
use mathlib.Core.Path.{subst, ◌∙◌}
use mathlib.Core.List.{[]}
use Rattle.algebra.specs.Array.{cut}
use Rattle.algebra.proofs.Arrays.{rows_none, rows_more, rows_all}
use Rattle.sizes.specs.Size.{count}
use Rattle.rows.proofs.Kernels.{leading_row}
use Rattle.sizes.proofs.Sizes.{bounds}
use Rattle.imm_steps.proofs.Banks.{covariance-used, row-used}
use Rattle.imm_steps.proofs.mixed_covariance.Goals as goal

pub loop-r-preserved : goal.loop-r-preserved
loop-r-preserved c =
    let v = c.loop-r.invariant in
    let a = c.args in
    let N = bounds a.n in
    let h : c.loop-r.r < count a.n = subst (λ (k : ℕ). c.loop-r.r < k) v.0.0 c.loop-r-test.true in
    let is = row-used (count a.n) (count a.k) a.x.now a.p.now [] [] a.w a.m c.loop-r.r (bounds a.k).most c.mixed_row.ensures in
    (v.0, rows_more v.1 N.most h (c.leading.ensures ∙ leading_row _ _ _ N.most is))

pub returns : goal.returns
returns c =
    let v = c.loop-r.invariant in
    let a = c.args in
    rows_all v.1 (omega (arith, v.0.0)) (covariance-used (count a.n) (count a.k) a.x.now a.p.now (cut (count a.k) []) (cut (count a.k) []) a.w a.m)
