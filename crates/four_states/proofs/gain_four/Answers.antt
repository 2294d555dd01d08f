-- `gain_four` meets its contract: the rows of P Hᵀ are stored, and their product.
use native.Mathlib.Omega.{arith}
use mathlib.Core.Path.{◌∙◌}
use Rattle.algebra.specs.Matrix.{mul}
use Rattle.algebra.specs.Array.{pad, used}
use Rattle.algebra.proofs.Matrices.{shape-mul}
use Rattle.sizes.specs.declared.Size.TheVariants.{Four}
use Rattle.filtering.specs.Filter.{gain}
use Rattle.four_states.proofs.Parts.{across_row, rows-used}
use Rattle.four_states.proofs.gain_four.Goals as goal

pub returns : goal.returns
unfolding gain
returns c =
    let p = c.args.p.now in
    let h = c.args.h.now in
    let r0 = across_row Four Four p h (omega arith) c.row_product_transposed-s0.ensures in
    let r1 = across_row Four Four p h (omega arith) c.row_product_transposed-s1.ensures in
    let r2 = across_row Four Four p h (omega arith) c.row_product_transposed-s2.ensures in
    let r3 = across_row Four Four p h (omega arith) c.row_product_transposed-s3.ensures in
    c.product.ensures ∙ λ i. pad (mul 4 4 4 (rows-used (shape-mul 4 4 4 _ _) r0 r1 r2 r3 i) (used 4 4 c.args.w.now))
