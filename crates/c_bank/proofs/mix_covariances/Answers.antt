-- `mix_covariances` meets its contract: a turn mixes one row of every covariance.
use Prim.Native.Nat.{ℕ, ◌<◌, ◌+◌, ◌*◌}
use native.Mathlib.Omega.{arith}
use mathlib.Core.Path.{◌≡◌, ap, ◌∙◌}
use Rattle.answer.specs.Table.{table}
use Rattle.sizes.specs.Size.{count}
use Rattle.layout.specs.Layout.{joined}
use Rattle.c_bank.specs.Bank.{series, mixed_row_in}
use Rattle.c_bank.proofs.Rowing.{rowing_none, rowing_more}
use Rattle.c_bank.proofs.mix_covariances.Goals as goal

pub loop-r-init : goal.loop-r-init
loop-r-init c = (c.from-states.ensures, rowing_none _ _ _ _ _ _ _ _ c.requires.0 (omega (arith, c.requires.1)))

pub loop-r-preserved : goal.loop-r-preserved
loop-r-preserved c =
    let v = c.loop-r.invariant in
    let a = c.args in
    let b = c.loop-r.bank in
    let r = c.loop-r.r in
    let h : r < count a.places.n = omega (arith, v.0) in
    let row = λ (q : ℕ). series (count a.places.k) q a.places.step (mixed_row_in (count a.places.n) (count a.places.k) a.places.step a.by.x.now a.by.m.now a.by.w.now b q r) b in
    (v.0, rowing_more _ _ _ _ _ _ _ _ v.1 h (c.mix_row.ensures ∙ ap (λ (n : ℕ). row (a.places.p + r * n)) v.0))

pub returns : goal.returns
returns c =
    let v = c.loop-r.invariant in
    let a = c.args in
    let N = count a.places.n in
    let all : c.loop-r.r ≡ N = omega (arith, v.1.within, v.0) in
    let row = mixed_row_in N (count a.places.k) a.places.step a.by.x.now a.by.m.now a.by.w.now a.bank.now in
    v.1.is ∙ ap (λ (n : ℕ). series (count a.places.k) a.places.p a.places.step (λ j. joined (table n (λ r. row (a.places.p + r * N) r j))) a.bank.now) all
