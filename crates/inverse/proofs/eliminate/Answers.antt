-- `eliminate` meets its contract: the used parts of its two arrays are the definition's augmented matrix after each column.
use mathlib.Core.Path.{◌∙◌}
use native.Mathlib.Omega.{arith}
use Rattle.sizes.proofs.Sizes.{bounds}
use Rattle.answer.proofs.Exits.{exit}
use Rattle.inverse.proofs.Elimination.{sweeping_none, sweeping_more, sweeping_refused, sweeping_out, after_two, after_three}
use Rattle.inverse.proofs.eliminate.Goals as goal

pub returns-in_err-sweep : goal.returns-in_err-sweep
returns-in_err-sweep c =
    let e = sweeping_none c.args.n c.args.a.now c.identity_rows-right.ensures in
    exit c.from_residual.ensures.1 ∙ sweeping_refused e (omega (arith, c.requires)) c.in_err-sweep.ensures

pub returns-in_err-sweep-2 : goal.returns-in_err-sweep-2
returns-in_err-sweep-2 c =
    let e = sweeping_more (sweeping_none c.args.n c.args.a.now c.identity_rows-right.ensures) (omega (arith, c.requires)) c.in_ok-sweep.ensures in
    exit c.from_residual-in_err-sweep-2.ensures.1 ∙ sweeping_refused e (omega (arith, c.requires)) c.in_err-sweep-2.ensures

pub returns-in_err-sweep-3 : goal.returns-in_err-sweep-3
returns-in_err-sweep-3 c =
    let e = after_two (sweeping_none c.args.n c.args.a.now c.identity_rows-right.ensures) c.requires _ _ c.in_ok-sweep.ensures c.in_ok-sweep-2.ensures in
    exit c.from_residual-in_err-sweep-3.ensures.1 ∙ sweeping_refused e (omega (arith, c.requires)) c.in_err-sweep-3.ensures

pub returns-then-from-lt4 : goal.returns-then-from-lt4
returns-then-from-lt4 c =
    let e = after_three (sweeping_none c.args.n c.args.a.now c.identity_rows-right.ensures) c.requires _ _ _ _ c.in_ok-sweep.ensures c.in_ok-sweep-2.ensures c.in_ok-sweep-3.ensures in
    sweeping_out e (omega (arith, c.from.ensures, c.if-from-lt4.true)) c.used_part.ensures

pub returns-in_err-sweep-4 : goal.returns-in_err-sweep-4
returns-in_err-sweep-4 c =
    let e = after_three (sweeping_none c.args.n c.args.a.now c.identity_rows-right.ensures) c.requires _ _ _ _ c.in_ok-sweep.ensures c.in_ok-sweep-2.ensures c.in_ok-sweep-3.ensures in
    exit c.from_residual-in_err-sweep-4.ensures.1 ∙ sweeping_refused e (omega (arith, c.from.ensures, c.if-from-lt4.false)) c.in_err-sweep-4.ensures

pub returns : goal.returns
returns c =
    let e = after_three (sweeping_none c.args.n c.args.a.now c.identity_rows-right.ensures) c.requires _ _ _ _ c.in_ok-sweep.ensures c.in_ok-sweep-2.ensures c.in_ok-sweep-3.ensures in
    sweeping_out (sweeping_more e (omega (arith, c.from.ensures, c.if-from-lt4.false)) c.in_ok-sweep-4.ensures) (bounds c.args.n).most c.used_part-2.ensures
