-- `gain` meets its contract: its four rows.
use native.Mathlib.Omega.{arith}
use mathlib.Core.Path.{refl}
use mathlib.Core.List.{[], ◌∷◌}
use Rattle.algebra.specs.Matrix.{row}
use Rattle.algebra.specs.Array.{used}
use Rattle.algebra.proofs.Arrays.{rows_at}
use Rattle.sizes.specs.declared.Size.TheVariants.{Two, Four}
use Rattle.rows.proofs.RowWise.{rows_are}
use Rattle.filtering.specs.Filter.{gain}
use Rattle.filtering.proofs.Shapes.{shape-gain}
use Rattle.four_states.proofs.Parts.{gain-row}
use Rattle.four_states.proofs.gain.Goals as goal

pub returns : goal.returns
returns c =
    let p = c.args.p.now in
    let h = c.args.h.now in
    let w = c.args.w.now in
    let r0 = gain-row Four Two p h w (omega arith) c.row_product_transposed-s0.ensures c.row_product.ensures c.leading-r0.ensures in
    let r1 = gain-row Four Two p h w (omega arith) c.row_product_transposed-s1.ensures c.row_product-2.ensures c.leading-r1.ensures in
    let r2 = gain-row Four Two p h w (omega arith) c.row_product_transposed-s2.ensures c.row_product-3.ensures c.leading-r2.ensures in
    let r3 = gain-row Four Two p h w (omega arith) c.row_product_transposed-s3.ensures c.row_product-4.ensures c.leading-r3.ensures in
    rows_at 4 _ (row (gain 4 2 (used 4 4 p) (used 2 4 h) (used 2 2 w))) refl (λ i. r0 i ∷ r1 i ∷ r2 i ∷ r3 i ∷ []) (rows_are (shape-gain _ _ _ _ _))
