-- `informed_vector` meets its contract: two products and a sum, each read back from its array.
use mathlib.Core.Path.{◌≡◌, ap, ap₂, ◌∙◌}
use Rattle.algebra.specs.Matrix.{Vector, Matrix, matvec, transpose, vec_add}
use Rattle.algebra.specs.Array.{pad_row}
use Rattle.algebra.proofs.Matrices.{shape-transpose}
use Rattle.algebra.proofs.Vectors.{length-matvec}
use Rattle.algebra.proofs.Arrays.{used-pad, cut-pad_row}
use Rattle.sizes.specs.Size.{count, front, part}
use Rattle.filtering.specs.Information.{informed}
use Rattle.information_steps.proofs.informed_vector.Goals as goal

pub returns : goal.returns
unfolding informed
returns c =
    let a = c.args in
    let n = a.n in
    let m = a.m in
    let turned : part n m c.transposed-ht.result ≡ transpose (count m) (count n) (part m n a.h.now) = ap (part n m) c.transposed-ht.ensures ∙ used-pad _ _ _ (shape-transpose _ _ _) in
    let weighed = ap (front m) c.product_vector-wz.ensures ∙ cut-pad_row _ _ (length-matvec _ _ _ _) in
    let added = ap (front n) c.product_vector-htwz.ensures ∙ cut-pad_row _ _ (length-matvec _ _ _ _) ∙ ap₂ (λ (A : Matrix) (v : Vector). matvec (count n) (count m) A v) turned weighed in
    c.vector_sum.ensures ∙ ap (λ (v : Vector). pad_row (vec_add (count n) (front n a.xi.now) v)) added
