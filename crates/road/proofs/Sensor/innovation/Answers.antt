-- `innovation` meets its contract: by what the inversion of one number answers.
use mathlib.Core.Path.{sym, ap, ◌∙◌}
use Rattle.answer.proofs.Exits.{exit}
use Rattle.road.proofs.Roads.{told_by, when_answered, when_refused}
use Rattle.road.proofs.Sensor.innovation.Goals as goal

pub returns-in_err-inverse : goal.returns-in_err-inverse
returns-in_err-inverse c =
    let a = c.args in
    ap (told_by a.self a.e) (exit c.from_residual.ensures.1) ∙ when_refused a.self a.z a.e (sym c.inverse_number.ensures ∙ c.in_err-inverse.was)

pub returns : goal.returns
returns c =
    let a = c.args in
    when_answered a.self a.z a.e (sym c.inverse_number.ensures ∙ c.in_ok-inverse.was)
