-- `reset_in` meets its contract.
use Rattle.std.specs.Prelude.{Ok}
use Rattle.answer.specs.Outcome.{into, handed}
use Rattle.matrix.proofs.Results.{as_answered}
use Rattle.kalman.specs.Record.{keeping, holding}
use Rattle.steps.proofs.Sizes.{fitted_given}
use Rattle.steps.proofs.Flats.{leading_of, flat_of}
use Rattle.kalman.proofs.KalmanFilter.reset_in.Goals as goal

pub returns : goal.returns
returns c =
    let a = c.args in
    let f = a.self.now in
    let s = fitted_given _ _ _ _ _ c.fitted.ensures c.in_ok-n.was in
    as_answered (λ o. handed (λ a. a) (holding f) f (into o)) _ s.passed
    (λ k. (Ok tt, keeping f (leading_of a.x s.states c.leading-self.ensures k, flat_of a.p.now s.states s.states c.flat_part-self.ensures k)))
