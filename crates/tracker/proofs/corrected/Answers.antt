-- `corrected` meets its contract: by whether there is a reading, and what the update answers.
use mathlib.Core.Path.{sym, ap, ◌∙◌}
use lib.Ieee.{Float}
use Rattle.std.specs.Prelude.{Option, Ok}
use Rattle.answer.specs.Answer.{mapped}
use Rattle.road.specs.Road.{sensor_of, estimate_of, corrected_of}
use Rattle.answer.proofs.Exits.{exit}
use Rattle.tracking.specs.Track.{corrected, measured}
use Rattle.tracker.proofs.Readings.{updated}
use Rattle.tracker.proofs.corrected.Goals as goal

pub returns-in_err-found-in-Some : goal.returns-in_err-found-in-Some
returns-in_err-found-in-Some c =
    let Y = sensor_of c.args.sensor in
    let e = estimate_of c.args.e in
    ap (mapped estimate_of) (exit c.from_residual.ensures.1)
    ∙ sym (ap (mapped (corrected_of Y e)) c.in_err-found-in-Some.was)
    ∙ updated Y c.in-Some.z e _ c.innovation.ensures
    ∙ ap (λ (z : Option Float). corrected Y (measured z) e) (sym c.in-Some.is)

pub returns-in_ok-found-in-Some : goal.returns-in_ok-found-in-Some
returns-in_ok-found-in-Some c =
    let Y = sensor_of c.args.sensor in
    let e = estimate_of c.args.e in
    ap Ok c.corrected.ensures
    ∙ sym (ap (mapped (corrected_of Y e)) c.in_ok-found-in-Some.was)
    ∙ updated Y c.in-Some.z e _ c.innovation.ensures
    ∙ ap (λ (z : Option Float). corrected Y (measured z) e) (sym c.in-Some.is)

pub returns-in-None : goal.returns-in-None
unfolding corrected
returns-in-None c = ap (λ (z : Option Float). corrected (sensor_of c.args.sensor) (measured z) (estimate_of c.args.e)) (sym c.in-None.is)
