-- `spread::mixed_row` meets its contract: a turn adds the term of one model, in all four columns.
use mathlib.Core.Path.{sym}
use native.Mathlib.Numerals.{add-one}
use native.Mathlib.Omega.{arith}
use Rattle.sizes.proofs.Sizes.{bounds}
use Rattle.imm_steps.proofs.Ways.{columns-none, columns-more, columns_at}
use Rattle.c_bank.proofs.spread.mixed_row.Invariants.{term}
use Rattle.c_bank.proofs.spread.mixed_row.Goals as goal

pub loop-i-init : goal.loop-i-init
loop-i-init c =
    let e = c.from-models.ensures in
    let a = c.args in
    ((e, omega (arith, e, bounds a.k)), (c.requires, (omega arith, columns-none (term a.p.now a.by.x.now a.by.m.now a.by.w.now a.j a.r))))

pub loop-i-preserved : goal.loop-i-preserved
loop-i-preserved c =
    let a = c.args in
    let v = c.loop-i.invariant in
    let g = term a.p.now a.by.x.now a.by.m.now a.by.w.now a.j a.r in
    (v.0, (v.1.0, (omega arith, columns_at g (sym (add-one c.loop-i.i)) (columns-more g c.loop-i.i v.1.1.1 c.plus_spread-next.ensures))))

pub returns : goal.returns
returns c =
    let a = c.args in
    let v = c.loop-i.invariant in
    columns_at (term a.p.now a.by.x.now a.by.m.now a.by.w.now a.j a.r) (omega (arith, v.0.0, v.1.1.0)) v.1.1.1
