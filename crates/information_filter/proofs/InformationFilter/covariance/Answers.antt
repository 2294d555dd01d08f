-- `covariance` meets its contract.
use mathlib.Core.Path.{ap, ◌∙◌}
use Prim.Native.Nat.{ℕ}
use Rattle.algebra.specs.Array.{used_flat}
use Rattle.algebra.specs.Inverse.{inv}
use Rattle.sizes.specs.Size.{count}
use Rattle.matrix.specs.Result.{as_matrix}
use Rattle.matrix.proofs.Results.{if_answered}
use Rattle.filtering.specs.Information.{covariance}
use Rattle.steps.proofs.Sizes.{sized_given}
use Rattle.steps.proofs.Flats.{read}
use Rattle.information_filter.proofs.InformationFilter.covariance.Goals as goal

pub returns : goal.returns
unfolding covariance
returns c =
    let f = c.args.self in
    let s = sized_given _ _ _ c.sized.ensures c.in_ok-n.was in
    let O = read c.in_ok-n.n c.in_ok-n.n f.omega c.from_flat-omega.ensures in
    if_answered as_matrix _ s.passed
    (c.inverse_of.ensures ∙ (λ k. as_matrix (inv (count c.in_ok-n.n) (O k))) ∙ ap (λ (n : ℕ). as_matrix (inv n (used_flat n n f.omega))) s.states)
