-- `set` meets its contract: one cell is stored into what was filled up with +0 (`stored-used`).
use native.Mathlib.Omega.{arith}
use Rattle.algebra.specs.Matrix.{set_cell}
use Rattle.algebra.specs.Array.{used}
use Rattle.sizes.proofs.Sizes.{inside-sizes}
use Rattle.matrix.proofs.Results.{inside_given, matrix_at}
use Rattle.elementwise.proofs.Stores.{stored-used}
use Rattle.elementwise.proofs.Sized.{place_given}
use Rattle.elementwise.proofs.set.Goals as goal

pub returns : goal.returns
returns c =
    let a = c.args in
    let s = inside_given _ _ _ _ c.inside.ensures c.in_ok-rows.was in
    let n = inside-sizes _ _ _ _ s.passed in
    matrix_at (λ r c. set_cell r c a.i a.j a.val (used r c a.a)) s (stored-used _ _ _ _ _ _ c.used_part-out.ensures (omega (arith, s.rows)) (omega (arith, s.cols)))

pub offset_bounds-out-i : goal.offset_bounds-out-i
offset_bounds-out-i c = let p = place_given _ _ _ _ c.inside.ensures c.in_ok-rows.was in omega arith

pub offset_bounds-out-j : goal.offset_bounds-out-j
offset_bounds-out-j c = let p = place_given _ _ _ _ c.inside.ensures c.in_ok-rows.was in omega arith

pub bounds-out-i : goal.bounds-out-i
bounds-out-i c = let p = place_given _ _ _ _ c.inside.ensures c.in_ok-rows.was in omega arith

pub bounds-out-j : goal.bounds-out-j
bounds-out-j c = let p = place_given _ _ _ _ c.inside.ensures c.in_ok-rows.was in omega arith
