-- `product` meets its contract: its four rows.
use native.Mathlib.Omega.{arith}
use mathlib.Core.Path.{refl}
use mathlib.Core.List.{[], ◌∷◌}
use Rattle.algebra.specs.Matrix.{row, mul}
use Rattle.algebra.specs.Array.{used}
use Rattle.algebra.proofs.Matrices.{shape-mul}
use Rattle.algebra.proofs.Arrays.{rows_at}
use Rattle.sizes.specs.declared.Size.TheVariants.{Four}
use Rattle.rows.proofs.RowWise.{rows_are}
use Rattle.four_states.proofs.Parts.{product-row}
use Rattle.four_states.proofs.product.Goals as goal

pub returns : goal.returns
returns c =
    let a = c.args.a.now in
    let b = c.args.b.now in
    let r0 = product-row Four Four Four a b (omega arith) c.row_product.ensures c.leading-r0.ensures in
    let r1 = product-row Four Four Four a b (omega arith) c.row_product-2.ensures c.leading-r1.ensures in
    let r2 = product-row Four Four Four a b (omega arith) c.row_product-3.ensures c.leading-r2.ensures in
    let r3 = product-row Four Four Four a b (omega arith) c.row_product-4.ensures c.leading-r3.ensures in
    rows_at 4 _ (row (mul 4 4 4 (used 4 4 a) (used 4 4 b))) refl (λ i. r0 i ∷ r1 i ∷ r2 i ∷ r3 i ∷ []) (rows_are (shape-mul 4 4 4 _ _))
