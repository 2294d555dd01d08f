-- `update` meets its contract: by the variance, and by what the downdate answers.
use mathlib.Core.Path.{◌≡◌, sym, ◌∙◌}
use Rattle.std.proofs.Common.{rules}
use Rattle.std.specs.Prelude.{Err}
use Rattle.sqrt_steps.proofs.Maps.{map_gives}
use Rattle.sqrt_road.specs.Road.{factored_of}
use Rattle.sqrt_road.proofs.Ways.{not_updated, updated}
use Rattle.sqrt_road.proofs.update.Goals as goal

pub returns-in_err-s : goal.returns-in_err-s
returns-in_err-s c =
    let a = c.args in
    let e : c.from_residual.result ≡ Err c.in_err-s.field-0.0 = search rules in
    (λ i. (e i, factored_of a.g.now)) ∙ not_updated a.sensor a.z a.g.now (sym c.variance.ensures ∙ c.in_err-s.was)

pub returns : goal.returns
returns c =
    let a = c.args in
    updated a.sensor a.z a.g.now (sym c.variance.ensures ∙ c.in_ok-s.was) c.sqrt-root.ensures c.downdate-turned.ensures
    (map_gives (λ u. _) _ c.map.ensures.cases (λ x r q. search rules))
