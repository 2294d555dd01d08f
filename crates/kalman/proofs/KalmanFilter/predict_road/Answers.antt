-- `predict_road` meets its contract: the numbers that it reads are those of the model and the estimate.
use mathlib.Core.Path.{ap, ◌∙◌}
use Rattle.answer.specs.Outcome.{Outcome, standing}
use Rattle.algebra.specs.Array.{cut}
use Rattle.filtering.specs.Filter.{Estimate}
use Rattle.filtering.specs.Linear.{predict}
use Rattle.kalman.specs.Record.{holding}
use Rattle.kalman.proofs.KalmanFilter.predict_road.Goals as goal

pub returns : goal.returns
unfolding cut
returns c =
    let f = c.args.self.now in
    let o = c.predict-e.ensures ∙ λ k. predict (c.motion.ensures k) (cut 1 c.args.u.now) (c.pair.ensures k) in
    c.put_pair.ensures ∙ ap (λ (o : Outcome Estimate (Unit {0})). standing (holding f) f o.left) o
