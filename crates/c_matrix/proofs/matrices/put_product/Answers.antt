-- `put_product` meets its contract: the loop places the rows of the product one after another.
use mathlib.Core.Path.{refl, sym, ap, ◌∙◌}
use mathlib.Core.List.{List}
use Prim.Native.Nat.{◌*◌, ◌<◌}
use native.Mathlib.Omega.{arith}
use lib.Ieee.{Float}
use Rattle.answer.proofs.Tables.{length-table}
use Rattle.algebra.specs.Matrix.{mul}
use Rattle.algebra.proofs.Matrices.{shape-mul}
use Rattle.sizes.specs.Size.{count}
use Rattle.sizes.proofs.Sizes.{bounds}
use Rattle.layout.specs.Layout.{joined, placed}
use Rattle.layout.proofs.Places.{placed-whole}
use Rattle.layout.proofs.Rows.{length-rows}
use Rattle.layout.proofs.Loops.{putting_none, putting_room, putting_more, putting_all}
use Rattle.layout.proofs.Calls.{vector-put}
use Rattle.c_slices.specs.Slices.{rows}
use Rattle.c_slices.specs.Calls.{product_in}
use Rattle.c_matrix.proofs.Products.{row_of, product-row}
use Rattle.c_matrix.proofs.matrices.put_product.Goals as goal

pub loop-i-init : goal.loop-i-init
loop-i-init c = putting_none _ _ _ _ _ (omega (arith, c.requires.out_whole)) (λ j. length-table _ _)

pub loop-i-preserved : goal.loop-i-preserved
loop-i-preserved c =
    let a = c.args in
    let i = c.loop-i.i in
    let less : i < count a.r = omega arith in
    let v = row_of (count a.r) (count a.k) a.a.now i less (bounds a.k) c.requires.a_whole c.row_in.ensures in
    let room = putting_room c.loop-i.invariant less in
    putting_more (i * count a.c) c.loop-i.invariant less (omega arith)
    (vector-put _ c.loop-i.out _ refl (omega (arith, room)) c.put_row.ensures
    ∙ ap (λ (l : List Float). placed (i * count a.c) l c.loop-i.out) (product-row _ v (bounds a.c) c.row_product-p.ensures))

pub returns : goal.returns
unfolding mul
returns c =
    let a = c.args in
    let A = rows (count a.r) (count a.k) a.a.now in
    let B = rows (count a.k) (count a.c) a.b.now in
    putting_all c.loop-i.invariant (omega arith)
    ∙ (λ i. placed 0 (joined (mul (count a.r) (count a.k) (count a.c) A (c.four_rows-m.ensures (count a.k) (bounds a.k).most c.requires.b_whole i))) a.out.now)
    ∙ placed-whole (product_in (count a.r) (count a.k) (count a.c) a.a.now a.b.now) a.out.now
    (length-rows (count a.r) (count a.c) _ (shape-mul _ (count a.k) _ A B) ∙ sym c.requires.out_whole)
