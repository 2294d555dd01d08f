-- `matrix_cholesky` meets its contract.
use mathlib.Core.Bool.{◌&&◌}
use Rattle.algebra.specs.Cholesky.{cholesky}
use Rattle.algebra.proofs.Factors.{shape-cholesky}
use Rattle.sizes.proofs.Sizes.{bounds}
use Rattle.c_slices.proofs.Ways.{whole, seen, answer-handed}
use Rattle.c_matrix.proofs.matrices.matrix_cholesky.Goals as goal

pub returns : goal.returns
returns c =
    let a = c.args in
    let w = whole a.n a.n a.a.now c.matrix.ensures c.in_ok-size.was in
    let o = whole a.n a.n a.out.now c.matrix-2.ensures c.in_ok-matrix.was in
    answer-handed a.out.now (λ i. w.is i && o.is i) o.long w.rows w.rows
    (λ i. cholesky (w.rows i) (seen w w.rows w.rows _ (c.four_rows-x.ensures _ (bounds _).most) i))
    (λ B. shape-cholesky _ _ B) c.factor_of.ensures c.give_part.ensures
