-- `frob_norm` meets its contract: the number is the root of `sum_of_squares`.
use mathlib.Core.Path.{ap, ◌∙◌}
use Rattle.std.specs.Prelude.{Ok}
use Rattle.root.specs.Root.{root}
use Rattle.algebra.specs.Matrix.{frob_norm}
use Rattle.algebra.specs.Array.{used}
use Rattle.matrix.proofs.Results.{shape_given, at_shape}
use Rattle.elementwise.proofs.frob_norm.Goals as goal

pub returns : goal.returns
unfolding frob_norm
returns c =
    at_shape (λ o. o) (λ r k. frob_norm r k (used r k c.args.a)) (shape_given _ _ c.shape.ensures c.in_ok-rows.was)
    (ap Ok (c.sqrt.ensures ∙ ap root c.sum_of_squares.ensures))
