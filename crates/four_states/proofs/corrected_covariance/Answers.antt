-- `corrected_covariance` meets its contract: the rows of I - K H are stored, and their product.
use native.Mathlib.Omega.{arith}
use mathlib.Core.Path.{◌∙◌}
use Rattle.algebra.specs.Matrix.{mul}
use Rattle.algebra.specs.Array.{pad, used}
use Rattle.algebra.proofs.Matrices.{shape-sub}
use Rattle.sizes.specs.declared.Size.TheVariants.{Two, Four}
use Rattle.filtering.specs.Filter.{corrected_covariance}
use Rattle.four_states.proofs.Parts.{rest-row, rows-used}
use Rattle.four_states.proofs.corrected_covariance.Goals as goal

pub returns : goal.returns
unfolding corrected_covariance
returns c =
    let k = c.args.k.now in
    let h = c.args.h.now in
    let e = c.identity_rows-e.result in
    let is = c.identity_rows-e.ensures in
    let r0 = rest-row Four Two k h e (omega arith) is c.row_product.ensures c.row_difference-s0.ensures in
    let r1 = rest-row Four Two k h e (omega arith) is c.row_product-2.ensures c.row_difference-s1.ensures in
    let r2 = rest-row Four Two k h e (omega arith) is c.row_product-3.ensures c.row_difference-s2.ensures in
    let r3 = rest-row Four Two k h e (omega arith) is c.row_product-4.ensures c.row_difference-s3.ensures in
    c.product.ensures ∙ λ i. pad (mul 4 4 4 (rows-used (shape-sub 4 4 _ _) r0 r1 r2 r3 i) (used 4 4 c.args.p.now))
