-- `information_reset` meets its contract: by what the estimate is told as.
use mathlib.Core.Path.{◌≡◌, refl, ap, ◌∙◌}
use lib.ListN.{length}
use Rattle.std.proofs.Common.{rules}
use Rattle.std.specs.Prelude.{Err}
use Rattle.answer.specs.Answer.{mapped}
use Rattle.answer.specs.Outcome.{into}
use Rattle.answer.specs.Told.{written}
use Rattle.information_steps.specs.Step.{arrays_of}
use Rattle.c_copies.proofs.Filters.{step_given, length_given, with-passed}
use Rattle.c_information.specs.Information.{of_estimate_at, stepped_in}
use Rattle.c_information.proofs.Calls.{estimate-given, answered-left, refused-left, made, refused-as, fitted-step, written-stepped}
use Rattle.c_information.proofs.information_reset.Goals as goal

pub returns-in_err-of_estimate : goal.returns-in_err-of_estimate
returns-in_err-of_estimate c =
    let a = c.args in
    let f = a.filter.now in
    let s = step_given (λ m. m) a.n a.m a.i (length f) a.n (length a.x0.now) c.in_ok-at.ensures in
    let l = length_given c.in_ok-fits.ensures ∙ s.at.square in
    let e : c.from_residual-in_err-of_estimate.result ≡ Err c.in_err-of_estimate.field-0.0 = search rules in
    let o = refused-left arrays_of _ _ c.in_err-of_estimate.ensures ∙ ap (mapped arrays_of) (estimate-given _ s.at.states a.x0.now a.p0.now s.same l) in
    fitted-step a.n a.m a.i f (into (of_estimate_at a.n a.x0.now a.p0.now)) (with-passed (λ m. m) a.n a.m a.i (length f) a.n (length a.x0.now) s.passed l)
    (refused-as arrays_of (λ b. stepped_in a.n a.m a.i f (into b)) (of_estimate_at a.n a.x0.now a.p0.now) f o e refl)

pub returns : goal.returns
returns c =
    let a = c.args in
    let f = a.filter.now in
    let s = step_given (λ m. m) a.n a.m a.i (length f) a.n (length a.x0.now) c.in_ok-at.ensures in
    let l = length_given c.in_ok-fits.ensures ∙ s.at.square in
    let o = answered-left arrays_of _ _ c.in_ok-of_estimate.ensures ∙ ap (mapped arrays_of) (estimate-given _ s.at.states a.x0.now a.p0.now s.same l) in
    fitted-step a.n a.m a.i f (into (of_estimate_at a.n a.x0.now a.p0.now)) (with-passed (λ m. m) a.n a.m a.i (length f) a.n (length a.x0.now) s.passed l)
    (ap (written f) (made f s.at a.x0.now a.p0.now o c.put_pair.ensures) ∙ written-stepped a.n a.m a.i f (of_estimate_at a.n a.x0.now a.p0.now))
