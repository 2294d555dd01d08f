-- `spread` meets its contract: its four rows.
use native.Mathlib.Omega.{arith}
use mathlib.Core.Path.{refl}
use mathlib.Core.List.{[], ◌∷◌}
use Rattle.algebra.specs.Matrix.{row, mul, add, transpose}
use Rattle.algebra.specs.Array.{used}
use Rattle.algebra.proofs.Matrices.{shape-add}
use Rattle.algebra.proofs.Arrays.{rows_at}
use Rattle.sizes.specs.declared.Size.TheVariants.{Four}
use Rattle.rows.proofs.RowWise.{rows_are}
use Rattle.four_states.proofs.Parts.{spread_row}
use Rattle.four_states.proofs.spread.Goals as goal

pub returns : goal.returns
returns c =
    let s = c.args.s.now in
    let a = c.args.a.now in
    let q = c.args.q.now in
    let r0 = spread_row Four Four s a q (omega arith) c.row_product_transposed.ensures c.row_sum-s0.ensures c.leading-r0.ensures in
    let r1 = spread_row Four Four s a q (omega arith) c.row_product_transposed-2.ensures c.row_sum-s1.ensures c.leading-r1.ensures in
    let r2 = spread_row Four Four s a q (omega arith) c.row_product_transposed-3.ensures c.row_sum-s2.ensures c.leading-r2.ensures in
    let r3 = spread_row Four Four s a q (omega arith) c.row_product_transposed-4.ensures c.row_sum-s3.ensures c.leading-r3.ensures in
    rows_at 4 _ (row (add 4 4 (mul 4 4 4 (used 4 4 s) (transpose 4 4 (used 4 4 a))) (used 4 4 q))) refl (λ i. r0 i ∷ r1 i ∷ r2 i ∷ r3 i ∷ []) (rows_are (shape-add 4 4 _ _))
