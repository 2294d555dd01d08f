-- `transposed` meets its contract: the columns are the rows.
use mathlib.Core.Path.{sym, ap, ◌∙◌}
use mathlib.Core.List.{[], ◌∷◌}
use Rattle.algebra.specs.Matrix.{cell}
use Rattle.algebra.specs.Array.{pad}
use Rattle.algebra.proofs.Arrays.{used-mat, transpose-used}
use Rattle.sizes.specs.Size.{part}
use Rattle.sizes.proofs.Sizes.{bounds}
use Rattle.rows.proofs.transposed.Goals as goal

pub returns : goal.returns
returns c =
    let x = c.args in
    c.leading_rows.ensures
    ∙ (λ i. pad (part x.c x.r (c.column.ensures i ∷ c.column-2.ensures i ∷ c.column-3.ensures i ∷ c.column-4.ensures i ∷ [])))
    ∙ ap pad (used-mat _ _ (λ i j. cell x.a.now j i) (bounds x.c).most (bounds x.r).most ∙ sym (transpose-used _ _ _))
