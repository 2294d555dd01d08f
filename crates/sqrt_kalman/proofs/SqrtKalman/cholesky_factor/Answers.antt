-- `cholesky_factor` meets its contract.
use Prim.Native.Nat.{ℕ}
use mathlib.Core.Path.{ap, ◌∙◌}
use Rattle.algebra.specs.Array.{used_flat, pad}
use Rattle.matrix.proofs.Results.{matrix-answered}
use Rattle.steps.proofs.Flats.{read}
use Rattle.steps.proofs.Sizes.{sized_given}
use Rattle.sqrt_kalman.proofs.SqrtKalman.cholesky_factor.Goals as goal

pub returns : goal.returns
returns c =
    let f = c.args.self in
    let s = sized_given f.n f.m f.i c.sized.ensures c.in_ok-n.was in
    matrix-answered _ s.passed
    (c.used_part.ensures ∙ ap pad (read c.in_ok-n.n c.in_ok-n.n f.s_chol c.from_flat-s.ensures ∙ ap (λ (k : ℕ). used_flat k k f.s_chol) s.states))
