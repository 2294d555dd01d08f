-- `cellwise` meets its contract.
use mathlib.Core.Bool.{◌&&◌}
use Rattle.algebra.proofs.Matrices.{shape-mat}
use Rattle.rows.specs.Row.{cellwise}
use Rattle.c_slices.proofs.Ways.{whole, seen, matrix-made}
use Rattle.c_matrix.proofs.matrices.cellwise.Goals as goal

pub returns : goal.returns
returns g c =
    let a = c.args in
    let w = whole a.r a.c a.a.now c.matrix.ensures c.in_ok-rows.was in
    let v = whole a.r a.c a.b.now c.matrix-2.ensures c.in_ok-matrix.was in
    let o = whole a.r a.c a.out.now c.matrix-3.ensures c.in_ok-matrix-2.was in
    let R = w.rows in
    let C = w.cols in
    matrix-made a.out.now (λ i. w.is i && (v.is i && o.is i)) o.long R C
    (λ i. cellwise g.O.Operation.op (R i) (C i) (seen w R C _ c.part_in-x.ensures i) (seen v R C _ c.part_in-y.ensures i))
    (shape-mat _ _ _) c.cellwise.ensures c.put_matrix.ensures
