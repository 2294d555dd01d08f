-- `information_matrix` meets its contract.
use mathlib.Core.Path.{ap, ◌∙◌}
use Prim.Native.Nat.{ℕ}
use Rattle.algebra.specs.Array.{pad, used_flat}
use Rattle.matrix.proofs.Results.{matrix-answered}
use Rattle.steps.proofs.Sizes.{sized_given}
use Rattle.steps.proofs.Flats.{read}
use Rattle.information_filter.proofs.InformationFilter.information_matrix.Goals as goal

pub returns : goal.returns
returns c =
    let f = c.args.self in
    let s = sized_given _ _ _ c.sized.ensures c.in_ok-n.was in
    matrix-answered _ s.passed
    (c.used_part.ensures ∙ ap pad (read _ _ f.omega c.from_flat-omega.ensures ∙ ap (λ (k : ℕ). used_flat k k f.omega) s.states))
