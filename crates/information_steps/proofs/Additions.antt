-- A row of what is added to the matrix, by the kernels that make it: for a loop over any size, and where four states are written out. Assumes nothing.
use Prim.Native.Nat.{ℕ, ◌<◌}
use mathlib.Core.Path.{◌≡◌, ap, ◌∙◌}
use mathlib.Core.List.{List, []}
use lib.Ieee.{Float}
use Rattle.algebra.specs.Matrix.{row, transpose, vec_add}
use Rattle.algebra.specs.Array.{pad_row, pad}
use Rattle.algebra.proofs.Matrices.{shape-transpose}
use Rattle.algebra.proofs.Arrays.{used-pad}
use Rattle.sizes.specs.declared.Size.{Size}
use Rattle.sizes.specs.Size.{count, front, part}
use Rattle.sizes.proofs.Sizes.{bounds}
use Rattle.rows.specs.Row.{row_times}
use Rattle.rows.proofs.RowWise.{row_of_used, row_of_sum, row_of_product, row_renamed, row_leading}
use Rattle.filtering.specs.Information.{informed}
use Rattle.steps.specs.Step.{Rows}
use Rattle.information_steps.specs.Step.{information_rows}

-- Ω + (Hᵀ W) H, where t is the transposed H
pub informed-row : (n m : Size) (o h w : Rows) {i : ℕ} {t : Rows} {r s u v : List Float} → i < count n → t ≡ pad (transpose (count m) (count n) (part m n h))
    → r ≡ row_times (count m) (row t i) w → s ≡ row_times (count m) r h → u ≡ vec_add 4 (row o i) s → v ≡ pad_row (front n u)
    → v ≡ pad_row (row (informed (count n) (count m) (part m n h) (part m m w) [] (information_rows n o [])).matrix i)
unfolding informed
informed-row n m o h w l et er es eu ev =
    let N = bounds n in
    let M = bounds m in
    let turned = ap (part n m) et ∙ used-pad _ _ _ (shape-transpose _ _ _) in
    let left = row_of_product (row_renamed turned (row_of_used _ l M)) M _ er in
    ev ∙ row_leading (row_of_sum (row_of_used _ l N) (row_of_product left N _ es) eu)
