-- `factor_of` meets its contract: row after row by one law, each the definition's next row or its refusal.
use mathlib.Core.Path.{◌∙◌}
use native.Mathlib.Omega.{arith}
use Rattle.sizes.proofs.Sizes.{bounds}
use Rattle.answer.proofs.Exits.{exit}
use Rattle.cholesky.proofs.Rows.{left-none, left_one, left_two, left_three, factoring_none, first_row, row_made, row-refused, all_told}
use Rattle.cholesky.proofs.factor_of.Goals as goal

pub returns-in_err-r0 : goal.returns-in_err-r0
returns-in_err-r0 c =
    let e0 = factoring_none c.args.n c.args.a.now c.from-rows.ensures in
    exit c.from_residual.ensures.1 ∙ row-refused e0 (omega (arith, c.from-rows.ensures, bounds c.args.n)) (left-none _ _) c.with_diagonal.ensures c.in_err-r0.was c.from-rows.ensures

pub returns-then-rows-lt2 : goal.returns-then-rows-lt2
returns-then-rows-lt2 c =
    let e1 = first_row c.args.n c.args.a.now c.from-rows.ensures c.with_diagonal.ensures c.in_ok-r0.was in
    all_told e1 (omega (arith, c.if-rows-lt2.true)) c.from-rows.ensures

pub returns-in_err-r1 : goal.returns-in_err-r1
returns-in_err-r1 c =
    let e1 = first_row c.args.n c.args.a.now c.from-rows.ensures c.with_diagonal.ensures c.in_ok-r0.was in
    exit c.from_residual-in_err-r1.ensures.1 ∙ row-refused e1 c.if-rows-lt2.false (left_one _ _ c.with_cell-v1.ensures) c.with_diagonal-2.ensures c.in_err-r1.was c.from-rows.ensures

pub returns-then-rows-lt3 : goal.returns-then-rows-lt3
returns-then-rows-lt3 c =
    let e1 = first_row c.args.n c.args.a.now c.from-rows.ensures c.with_diagonal.ensures c.in_ok-r0.was in
    let e2 = row_made e1 c.if-rows-lt2.false (left_one _ _ c.with_cell-v1.ensures) c.with_diagonal-2.ensures c.in_ok-r1.was in
    all_told e2 (omega (arith, c.if-rows-lt3.true)) c.from-rows.ensures

pub returns-in_err-r2 : goal.returns-in_err-r2
returns-in_err-r2 c =
    let e1 = first_row c.args.n c.args.a.now c.from-rows.ensures c.with_diagonal.ensures c.in_ok-r0.was in
    let e2 = row_made e1 c.if-rows-lt2.false (left_one _ _ c.with_cell-v1.ensures) c.with_diagonal-2.ensures c.in_ok-r1.was in
    exit c.from_residual-in_err-r2.ensures.1
    ∙ row-refused e2 c.if-rows-lt3.false (left_two _ _ c.with_cell-u2.ensures c.with_cell-v2.ensures) c.with_diagonal-3.ensures c.in_err-r2.was c.from-rows.ensures

pub returns-then-rows-lt4 : goal.returns-then-rows-lt4
returns-then-rows-lt4 c =
    let e1 = first_row c.args.n c.args.a.now c.from-rows.ensures c.with_diagonal.ensures c.in_ok-r0.was in
    let e2 = row_made e1 c.if-rows-lt2.false (left_one _ _ c.with_cell-v1.ensures) c.with_diagonal-2.ensures c.in_ok-r1.was in
    let e3 = row_made e2 c.if-rows-lt3.false (left_two _ _ c.with_cell-u2.ensures c.with_cell-v2.ensures) c.with_diagonal-3.ensures c.in_ok-r2.was in
    all_told e3 (omega (arith, c.if-rows-lt4.true)) c.from-rows.ensures

pub returns-in_err-r3 : goal.returns-in_err-r3
returns-in_err-r3 c =
    let e1 = first_row c.args.n c.args.a.now c.from-rows.ensures c.with_diagonal.ensures c.in_ok-r0.was in
    let e2 = row_made e1 c.if-rows-lt2.false (left_one _ _ c.with_cell-v1.ensures) c.with_diagonal-2.ensures c.in_ok-r1.was in
    let e3 = row_made e2 c.if-rows-lt3.false (left_two _ _ c.with_cell-u2.ensures c.with_cell-v2.ensures) c.with_diagonal-3.ensures c.in_ok-r2.was in
    exit c.from_residual-in_err-r3.ensures.1
    ∙ row-refused e3 c.if-rows-lt4.false (left_three _ _ c.with_cell-t3.ensures c.with_cell-u3.ensures c.with_cell-v3.ensures) c.with_diagonal-4.ensures c.in_err-r3.was c.from-rows.ensures

pub returns : goal.returns
returns c =
    let e1 = first_row c.args.n c.args.a.now c.from-rows.ensures c.with_diagonal.ensures c.in_ok-r0.was in
    let e2 = row_made e1 c.if-rows-lt2.false (left_one _ _ c.with_cell-v1.ensures) c.with_diagonal-2.ensures c.in_ok-r1.was in
    let e3 = row_made e2 c.if-rows-lt3.false (left_two _ _ c.with_cell-u2.ensures c.with_cell-v2.ensures) c.with_diagonal-3.ensures c.in_ok-r2.was in
    let e4 = row_made e3 c.if-rows-lt4.false (left_three _ _ c.with_cell-t3.ensures c.with_cell-u3.ensures c.with_cell-v3.ensures) c.with_diagonal-4.ensures c.in_ok-r3.was in
    all_told e4 e4.most c.from-rows.ensures
