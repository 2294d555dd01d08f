-- `state` meets its contract.
use mathlib.Core.Path.{ap, ◌∙◌}
use Prim.Native.Nat.{ℕ}
use Rattle.sizes.specs.Size.{count}
use Rattle.matrix.specs.Result.{as_vector}
use Rattle.matrix.proofs.Results.{if_answered}
use Rattle.filtering.specs.Information.{state}
use Rattle.steps.proofs.Sizes.{sized_given}
use Rattle.information_filter.specs.Record.{information_flat}
use Rattle.information_filter.proofs.Ways.{read-information}
use Rattle.information_filter.proofs.InformationFilter.state.Goals as goal

pub returns : goal.returns
returns c =
    let f = c.args.self in
    let s = sized_given _ _ _ c.sized.ensures c.in_ok-n.was in
    let O = read-information c.in_ok-n.n f.omega f.xi c.from_flat-omega.ensures in
    if_answered as_vector _ s.passed
    (c.state.ensures ∙ (λ k. as_vector (state (count c.in_ok-n.n) (O k))) ∙ ap (λ (n : ℕ). as_vector (state n (information_flat n f.omega f.xi))) s.states)
