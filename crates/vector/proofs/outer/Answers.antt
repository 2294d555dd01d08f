-- `outer` meets its contract: the rows are the used part of those of `outer_rows`.
use mathlib.Core.Path.{ap, ◌∙◌}
use Rattle.algebra.specs.Array.{used, pad}
use Rattle.sizes.proofs.Sizes.{sizes_of, bounds_of}
use Rattle.matrix.proofs.Results.{shape_given, matrix-answered}
use Rattle.vector.proofs.Sized.{used-outer}
use Rattle.vector.proofs.outer.Goals as goal

pub returns : goal.returns
returns c =
    let a = c.args in
    let s = shape_given _ _ c.shape.ensures c.in_ok-rows.was in
    let n = sizes_of _ _ s.passed in
    matrix-answered _ s.passed
    (c.used_part.ensures
    ∙ (λ i. pad (used (s.rows i) (s.cols i) (c.outer_rows-m.ensures i)))
    ∙ ap pad (used-outer a.r a.c a.v a.w (bounds_of _ n.rows).most (bounds_of _ n.cols).most))
