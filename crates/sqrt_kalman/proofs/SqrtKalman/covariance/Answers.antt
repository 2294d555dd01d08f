-- `covariance` meets its contract.
use Prim.Native.Nat.{ℕ}
use mathlib.Core.Path.{ap, ◌∙◌}
use mathlib.Core.List.{[]}
use Rattle.algebra.specs.Array.{pad}
use Rattle.sizes.specs.Size.{count}
use Rattle.matrix.proofs.Results.{matrix-answered}
use Rattle.filtering.specs.SquareRoot.{Factored, covariance}
use Rattle.steps.proofs.Sizes.{sized_given}
use Rattle.sqrt_kalman.specs.Record.{factored_flat}
use Rattle.sqrt_kalman.proofs.Records.{read-factored}
use Rattle.sqrt_kalman.proofs.SqrtKalman.covariance.Goals as goal

pub returns : goal.returns
unfolding covariance
returns c =
    let f = c.args.self in
    let s = sized_given f.n f.m f.i c.sized.ensures c.in_ok-n.was in
    matrix-answered _ s.passed
    (c.covariance.ensures
    ∙ ap (λ (g : Factored). pad (covariance (count c.in_ok-n.n) g)) (read-factored c.in_ok-n.n [] f.s_chol c.from_flat-s.ensures)
    ∙ ap (λ (k : ℕ). pad (covariance k (factored_flat k f.x f.s_chol))) s.states)
