-- `matrix_identity` meets its contract.
use mathlib.Core.Path.{refl}
use Rattle.algebra.proofs.Matrices.{shape-identity}
use Rattle.c_slices.proofs.Ways.{whole, matrix-handed}
use Rattle.c_matrix.proofs.cells.matrix_identity.Goals as goal

pub returns : goal.returns
returns c =
    let a = c.args in
    let o = whole a.n a.n a.out.now c.matrix.ensures c.in_ok-size.was in
    matrix-handed a.out.now o.is o.size o.long o.rows o.rows refl (shape-identity _) c.identity.ensures c.give_part.ensures
