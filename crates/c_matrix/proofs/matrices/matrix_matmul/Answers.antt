-- `matrix_matmul` meets its contract.
use mathlib.Core.Path.{refl, ◌∙◌}
use mathlib.Core.Bool.{◌&&◌}
use Rattle.std.specs.Prelude.{Ok}
use Rattle.answer.specs.Answer.{where_sized}
use Rattle.c_slices.specs.Calls.{product_in}
use Rattle.c_slices.proofs.Ways.{whole, long_at, told}
use Rattle.c_matrix.proofs.matrices.matrix_matmul.Goals as goal

pub put_product-requires : goal.put_product-requires
put_product-requires c =
    let a = c.args in
    let w = whole a.r a.k a.a.now c.matrix.ensures c.in_ok-rows.was in
    let v = whole a.k a.c a.b.now c.matrix-2.ensures c.in_ok-cols.was in
    let o = whole a.r a.c a.out.now c.matrix-3.ensures c.in_ok-matrix.was in
    record { out_whole = long_at o w.rows v.cols; a_whole = long_at w w.rows w.cols; b_whole = long_at v w.cols v.cols }

pub returns : goal.returns
returns c =
    let a = c.args in
    let w = whole a.r a.k a.a.now c.matrix.ensures c.in_ok-rows.was in
    let v = whole a.k a.c a.b.now c.matrix-2.ensures c.in_ok-cols.was in
    let o = whole a.r a.c a.out.now c.matrix-3.ensures c.in_ok-matrix.was in
    told (λ l. Ok l) (λ b. where_sized b (product_in a.r a.k a.c a.a.now a.b.now)) a.out.now (λ i. w.is i && (v.is i && o.is i))
    (c.put_product.ensures ∙ λ i. product_in (w.rows i) (w.cols i) (v.cols i) a.a.now a.b.now) refl refl
