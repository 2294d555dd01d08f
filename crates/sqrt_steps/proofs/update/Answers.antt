-- `update` meets its contract: each turn takes in the definition's next component, or is its refusal.
use native.Mathlib.Omega.{arith}
use mathlib.Core.Path.{◌≡◌, ◌∙◌}
use Rattle.std.proofs.Common.{rules}
use Rattle.std.specs.Prelude.{Err}
use Rattle.sqrt_steps.proofs.Updates.{taking_refused, taking_all}
use Rattle.sqrt_steps.proofs.update.Goals as goal

pub returns-in_err-e : goal.returns-in_err-e
returns-in_err-e c =
    let v = c.loop-i.invariant in
    let e : c.from_residual.result ≡ Err c.in_err-e.field-0.0 = search rules in
    (λ i. (e i, (c.component.new.x, c.component.new.l)))
    ∙ taking_refused v.1 (omega (arith, v.0)) c.component.ensures c.in_err-e.was

pub returns : goal.returns
returns c = let v = c.loop-i.invariant in taking_all v.1 (omega (arith, v.0))
