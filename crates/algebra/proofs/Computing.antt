-- To unfold this is to unfold every definition that a case of matrices computes with. Assumes nothing.
use Prim.Native.Nat.{ℕ}
use lib.Ieee as Ieee
use Rattle.root.specs.Root as Root
use Rattle.scalar.specs.Number as Number
use Rattle.algebra.specs.Matrix as Matrix
use Rattle.algebra.specs.Inverse as Inverse
use Rattle.algebra.specs.Cholesky as Cholesky

unfoldable pub computing : ℕ
unfolding Ieee.of_bits Ieee.to_bits Ieee.of_int Ieee.round Ieee.add Ieee.sub Ieee.mul Ieee.div Ieee.lt Ieee.le
    Root.root Number.abs
    Matrix.sum_from Matrix.dot Matrix.identity Matrix.scale Matrix.transpose Matrix.add Matrix.sub Matrix.mul Matrix.matvec Matrix.vec_add Matrix.vec_sub Matrix.vec_scale
    Inverse.no_pivot Inverse.pivot_row Inverse.swapped Inverse.scaled_row Inverse.reduced Inverse.exchanged Inverse.cleared Inverse.column Inverse.columns Inverse.inv
    Cholesky.no_diagonal Cholesky.diagonal_of Cholesky.left_cells Cholesky.factor_row Cholesky.factor_rows Cholesky.cholesky
computing = 0
