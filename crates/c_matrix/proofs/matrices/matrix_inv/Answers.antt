-- `matrix_inv` meets its contract.
use mathlib.Core.Bool.{◌&&◌}
use native.Mathlib.Omega.{arith}
use Rattle.algebra.specs.Matrix.{at}
use Rattle.algebra.specs.Inverse.{inv}
use Rattle.algebra.proofs.Inverses.{inv-shape}
use Rattle.small_inverse.specs.Two.{inv_number}
use Rattle.small_inverse.proofs.Two.{number_is}
use Rattle.c_slices.proofs.Ways.{whole, seen, answer-handed, one-long, number-answered}
use Rattle.c_matrix.proofs.matrices.matrix_inv.Goals as goal

pub bounds-a-0 : goal.bounds-a-0
bounds-a-0 c = omega (arith, one-long (whole _ _ c.args.a.now c.matrix.ensures c.in_ok-size.was) c.if-n-eq1.true)

pub give_number-requires : goal.give_number-requires
give_number-requires c = one-long (whole _ _ c.args.out.now c.matrix-2.ensures c.in_ok-matrix.was) c.if-n-eq1.true

pub returns-then-n-eq1 : goal.returns-then-n-eq1
returns-then-n-eq1 c =
    let a = c.args in
    let w = whole a.n a.n a.a.now c.matrix.ensures c.in_ok-size.was in
    let o = whole a.n a.n a.out.now c.matrix-2.ensures c.in_ok-matrix.was in
    number-answered inv a.a.now a.out.now (inv_number (at a.a.now 0)) (λ i. w.is i && o.is i) c.if-n-eq1.true
    (number_is _) c.inverse_number.ensures c.give_number.ensures

pub returns : goal.returns
returns c =
    let a = c.args in
    let w = whole a.n a.n a.a.now c.matrix.ensures c.in_ok-size.was in
    let o = whole a.n a.n a.out.now c.matrix-2.ensures c.in_ok-matrix.was in
    answer-handed a.out.now (λ i. w.is i && o.is i) o.long w.rows w.rows
    (λ i. inv (w.rows i) (seen w w.rows w.rows _ c.part_in-x.ensures i))
    (λ B. inv-shape _ _ B) c.inverse_of.ensures c.give_part.ensures
