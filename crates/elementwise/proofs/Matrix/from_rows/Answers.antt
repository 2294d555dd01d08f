-- `Matrix::from_rows` meets its contract: the cells are the used part, laid flat.
use mathlib.Core.Path.{◌∙◌}
use Rattle.algebra.specs.Array.{used, pad, flat_of_rows}
use Rattle.matrix.proofs.Results.{shape_given, value_answered}
use Rattle.elementwise.proofs.Matrix.from_rows.Goals as goal

pub returns : goal.returns
returns c =
    let a = c.args in
    let s = shape_given _ _ c.shape.ensures c.in_ok-r.was in
    let made = c.flat_part-cells.ensures ∙ (λ k. flat_of_rows (pad (used (s.rows k) (s.cols k) a.a))) in
    value_answered _ s.passed (λ k. record { rows = a.rows; cols = a.cols; cells = made k })
