-- `vec_scale` meets its contract: all four components are made, and the used ones taken.
use mathlib.Core.Path.{◌∙◌}
use Rattle.scalar.specs.Number.{◌⊗◌}
use Rattle.algebra.specs.Matrix.{vec_scale}
use Rattle.algebra.specs.Array.{cut}
use Rattle.sizes.proofs.Sizes.{bounds}
use Rattle.rows.proofs.Kernels.{leading_each}
use Rattle.matrix.proofs.Results.{size_given, vector_at}
use Rattle.vector.proofs.vec_scale.Goals as goal

pub returns : goal.returns
unfolding vec_scale
returns c =
    let a = c.args in
    vector_at (λ n. vec_scale n (cut n a.a) a.s) (size_given _ c.try_from.ensures c.in_ok-k.was)
    (c.leading.ensures ∙ leading_each (λ x. x ⊗ a.s) _ _ _ (bounds c.in_ok-k.k).most c.row_scaled.ensures)
