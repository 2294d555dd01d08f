-- `get` meets its contract: a cell inside is the used part's.
use mathlib.Core.Path.{sym}
use native.Mathlib.Omega.{arith}
use Rattle.algebra.proofs.Arrays.{cell-used}
use Rattle.sizes.proofs.Sizes.{inside-sizes}
use Rattle.matrix.proofs.Results.{inside_given, value_answered}
use Rattle.elementwise.proofs.Sized.{place_given}
use Rattle.elementwise.proofs.get.Goals as goal

pub returns : goal.returns
returns c =
    let e = (inside_given _ _ _ _ c.inside.ensures c.in_ok-inside.was).passed in
    let s = inside-sizes _ _ _ _ e in
    value_answered _ e (sym (cell-used _ _ _ _ _ s.row s.col))

pub offset_bounds-a-i : goal.offset_bounds-a-i
offset_bounds-a-i c = let p = place_given _ _ _ _ c.inside.ensures c.in_ok-inside.was in omega arith

pub offset_bounds-a-j : goal.offset_bounds-a-j
offset_bounds-a-j c = let p = place_given _ _ _ _ c.inside.ensures c.in_ok-inside.was in omega arith

pub bounds-a-i : goal.bounds-a-i
bounds-a-i c = let p = place_given _ _ _ _ c.inside.ensures c.in_ok-inside.was in omega arith

pub bounds-a-j : goal.bounds-a-j
bounds-a-j c = let p = place_given _ _ _ _ c.inside.ensures c.in_ok-inside.was in omega arith
