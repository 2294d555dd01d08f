-- `downdate` meets its contract: each turn rotates the definition's next column, or is its refusal.
use native.Mathlib.Omega.{arith}
use mathlib.Core.Path.{◌≡◌, ◌∙◌}
use Rattle.std.proofs.Common.{rules}
use Rattle.std.specs.Prelude.{Err}
use Rattle.sqrt_steps.proofs.Downdates.{turning_refused}
use Rattle.sqrt_steps.proofs.downdate.Goals as goal

pub returns-in_err-rotate : goal.returns-in_err-rotate
returns-in_err-rotate c =
    let v = c.loop-k.invariant in
    let e : c.from_residual.result ≡ Err c.in_err-rotate.field-0.0 = search rules in
    (λ i. (e i, c.rotate.new.l)) ∙ turning_refused v.1 (omega (arith, v.0)) c.rotate.ensures c.in_err-rotate.was
