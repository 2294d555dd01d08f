-- `mix` meets its contract: a turn of the loop makes one model's mixed estimate, from what all models held at the start.
use Prim.Native.Nat.{ℕ, ◌<◌}
use native.Mathlib.Omega.{arith}
use mathlib.Core.Path.{subst}
use Rattle.answer.specs.Table.{table}
use Rattle.answer.proofs.Tables.{filling-none, filling-more}
use Rattle.algebra.specs.Matrix.{cell}
use Rattle.sizes.specs.Size.{count}
use Rattle.sizes.proofs.Sizes.{bounds}
use Rattle.imm_steps.proofs.Mixes.{weights_are, state-turn, covariance-turn, all-turns}
use Rattle.imm_steps.proofs.mix.Goals as goal

pub loop-j-preserved : goal.loop-j-preserved
loop-j-preserved c =
    let v = c.loop-j.invariant in
    let a = c.args in
    let j = c.loop-j.j in
    let few = (bounds a.k).most in
    let h : j < count a.k = subst (λ (k : ℕ). j < k) v.0.0.0 c.loop-j-test.true in
    let isW = weights_are a.n a.k a.t.now a.x.now a.p.now a.mu.now j c.predicted-c.result c.all_shares-w.result h c.predicted-c.ensures v.0.1 in
    let w = table 4 (λ i. cell c.all_shares-w.result i j) in
    let isX = state-turn a.n a.k a.t.now a.x.now a.p.now a.mu.now j w isW c.weighted-m.ensures in
    let isP = covariance-turn a.n a.k a.t.now a.x.now a.p.now a.mu.now j w isW isX c.mixed_covariance.ensures in
    (v.0, (filling-more v.1.0 few h isX, filling-more v.1.1 few h isP))

pub returns : goal.returns
returns c =
    let v = c.loop-j.invariant in
    let a = c.args in
    all-turns a.n a.k a.t.now a.x.now a.p.now a.mu.now v.1.0 v.1.1 (omega (arith, v.0.0.0)) c.predicted-c.ensures
