-- `new` meets its contract: by what the estimate is told as.
use mathlib.Core.Path.{ap, ◌∙◌}
use mathlib.Core.List.{[]}
use mathlib.Core.Bool.{Bool}
use Prim.Native.Nat.{ℕ}
use Rattle.answer.specs.Answer.{where_sized}
use Rattle.answer.specs.Outcome.{into, handed}
use Rattle.algebra.specs.Array.{pad, pad_row}
use Rattle.matrix.proofs.Results.{if_answered}
use Rattle.filtering.specs.Information.{of_estimate}
use Rattle.answer.proofs.Exits.{exit}
use Rattle.steps.specs.Flat.{motion_from, sensor_from, estimate_from}
use Rattle.steps.proofs.Sizes.{sized_given}
use Rattle.information_steps.specs.Step.{arrays_of}
use Rattle.information_filter.specs.Record.{record_of, information_from}
use Rattle.information_filter.proofs.Ways.{new-made, new-refused}
use Rattle.information_filter.proofs.InformationFilter.new.Goals as goal

pub returns-in_err-of_estimate : goal.returns-in_err-of_estimate
unfolding pad
returns-in_err-of_estimate c =
    let a = c.args in
    let s = sized_given _ _ _ c.sized.ensures c.in_ok-sn.was in
    let g = c.in_err-of_estimate.ensures ∙ ap (λ (n : ℕ). handed (λ t. t) arrays_of (pad [], pad_row []) (into (of_estimate n (estimate_from n a.x0 a.p0)))) s.states in
    if_answered (λ t. t) _ s.passed (new-refused (motion_from a.n a.i a.a a.b a.q) (sensor_from a.n a.m a.h a.r) (estimate_from a.n a.x0 a.p0) (pad []) (pad_row []) g (exit c.from_residual-in_err-of_estimate.ensures.1))

pub returns : goal.returns
unfolding pad
returns c =
    let a = c.args in
    let s = sized_given _ _ _ c.sized.ensures c.in_ok-sn.was in
    let g = c.in_ok-of_estimate.ensures ∙ ap (λ (n : ℕ). handed (λ t. t) arrays_of (pad [], pad_row []) (into (of_estimate n (estimate_from n a.x0 a.p0)))) s.states in
    let made = c.from_information.ensures ∙ ap (λ (t : Bool). where_sized t (record_of (motion_from a.n a.i a.a a.b a.q) (sensor_from a.n a.m a.h a.r) (information_from a.n c.of_estimate.new.omega c.of_estimate.new.xi))) s.passed in
    if_answered (λ t. t) _ s.passed (new-made (motion_from a.n a.i a.a a.b a.q) (sensor_from a.n a.m a.h a.r) (estimate_from a.n a.x0 a.p0) (pad []) (pad_row []) g made)
