-- `covariance` meets its contract: its rows, each made by itself.
use native.Mathlib.Omega.{arith}
use mathlib.Core.Path.{◌≡◌, sym, ap, ◌∙◌}
use mathlib.Core.List.{List, [], ◌∷◌}
use Prim.Native.Nat.{ℕ, zero, suc, ◌<◌}
use lib.Ieee.{Float}
use Rattle.answer.proofs.Tables.{table_ext}
use Rattle.algebra.specs.Matrix.{Matrix, row, mul, transpose}
use Rattle.algebra.specs.Array.{cut, used, pad}
use Rattle.algebra.proofs.Matrices.{shape-mul}
use Rattle.sizes.specs.declared.Size.{Size}
use Rattle.sizes.specs.Size.{count, part}
use Rattle.sizes.proofs.Sizes.{bounds}
use Rattle.rows.specs.Row.{row_times_transposed}
use Rattle.rows.proofs.RowWise.{row_of_used, row_of_product_transposed, rows_are}
use Rattle.filtering.specs.SquareRoot.{covariance}
use Rattle.sqrt_steps.proofs.covariance.Goals as goal

-- the four rows of l, each times transposed l, of which n are used
module _ (n : Size) (l : List (List Float)) {r0 r1 r2 r3 : List Float}
    (e0 : r0 ≡ row_times_transposed (count n) (row l 0) l)
    (e1 : r1 ≡ row_times_transposed (count n) (row l 1) l)
    (e2 : r2 ≡ row_times_transposed (count n) (row l 2) l)
    (e3 : r3 ≡ row_times_transposed (count n) (row l 3) l) where
  abbrev M : Matrix
  M = mul (count n) (count n) (count n) (part n n l) (transpose (count n) (count n) (part n n l))

  made : (i : ℕ) → i < count n → cut (count n) (row (r0 ∷ r1 ∷ r2 ∷ r3 ∷ []) i) ≡ row M i
  made zero h = (row_of_product_transposed (row_of_used l h (bounds n)) (bounds n) l e0).is
  made (suc zero) h = (row_of_product_transposed (row_of_used l h (bounds n)) (bounds n) l e1).is
  made (suc (suc zero)) h = (row_of_product_transposed (row_of_used l h (bounds n)) (bounds n) l e2).is
  made (suc (suc (suc zero))) h = (row_of_product_transposed (row_of_used l h (bounds n)) (bounds n) l e3).is
  made (suc (suc (suc (suc i)))) h = absurd (omega (arith, (bounds n).most, h))

  rows_made : part n n (r0 ∷ r1 ∷ r2 ∷ r3 ∷ []) ≡ M
  unfolding used
  rows_made = table_ext (count n) (λ i. cut (count n) (row (r0 ∷ r1 ∷ r2 ∷ r3 ∷ []) i)) (λ i. row M i) made ∙ sym (rows_are (shape-mul (count n) (count n) (count n) _ _))

pub returns : goal.returns
unfolding covariance
returns c =
    let a = c.args in
    c.leading_rows.ensures
    ∙ ap pad (rows_made a.n a.l.now c.row_product_transposed-r0.ensures c.row_product_transposed-r1.ensures c.row_product_transposed-r2.ensures c.row_product_transposed-r3.ensures)
