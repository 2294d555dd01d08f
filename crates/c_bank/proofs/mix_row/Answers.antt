-- `mix_row` meets its contract: two models are mixed as a pair; otherwise a turn mixes one model's row from the rows of all, which were read before.
use Prim.Native.Nat.{ℕ}
use native.Mathlib.Omega.{arith}
use mathlib.Core.Path.{sym, ap, ◌∙◌}
use Rattle.sizes.specs.Size.{count}
use Rattle.sizes.proofs.Sizes.{bounds}
use Rattle.c_bank.specs.Bank.{series, mixed_row_in}
use Rattle.c_bank.proofs.Serials.{serial_none, serial_more, serial_all}
use Rattle.c_bank.proofs.Rowing.{row_is, length-mixed}
use Rattle.c_bank.proofs.mix_row.Goals as goal

pub loop-j-init : goal.loop-j-init
loop-j-init c =
    let a = c.args in
    let long = length-mixed (count a.places.n) (count a.places.k) a.places.step a.by.x.now a.by.m.now a.by.w.now a.bank.now a.q a.r in
    (c.requires.0, serial_none _ _ _ _ a.places.k c.from-models.ensures c.requires.1 (λ j. omega (arith, long j, bounds a.places.n)))

pub loop-j-preserved : goal.loop-j-preserved
loop-j-preserved c =
    let v = c.loop-j.invariant in
    let a = c.args in
    (v.0, serial_more v.1 c.loop-j-test.true (row_is (count a.places.n) (count a.places.k) a.places.step a.by.x.now a.by.m.now a.by.w.now a.bank.now a.q a.r c.loop-j.j (bounds a.places.n).most c.each-p.ensures c.mixed_row-row.ensures) c.put_row.ensures)

pub returns-then-models-eq2 : goal.returns-then-models-eq2
returns-then-models-eq2 c =
    let a = c.args in
    let two = sym c.if-models-eq2.true ∙ c.from-models.ensures in
    c.mix_pair.ensures ∙ ap (λ (k : ℕ). series k a.q a.places.step (mixed_row_in (count a.places.n) k a.places.step a.by.x.now a.by.m.now a.by.w.now a.bank.now a.q a.r) a.bank.now) two

pub returns : goal.returns
returns c = serial_all c.loop-j.invariant.1 (omega arith) c.from-models.ensures
