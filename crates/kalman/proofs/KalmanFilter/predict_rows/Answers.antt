-- `predict_rows` meets its contract: the rows that it reads are those of the model and the estimate.
use mathlib.Core.Path.{◌∙◌}
use Rattle.sizes.specs.Size.{front}
use Rattle.filtering.specs.Linear.{predict}
use Rattle.steps.specs.Step.{left_rows}
use Rattle.steps.proofs.Flats.{read-motion}
use Rattle.kalman.proofs.Steps.{read-estimate, rows-predicted}
use Rattle.kalman.proofs.KalmanFilter.predict_rows.Goals as goal

pub returns : goal.returns
returns c =
    let a = c.args in
    let f = a.self.now in
    let M = read-motion a.n a.i f.a f.b f.q c.from_flat-a.ensures c.from_flat-b.ensures c.from_flat-q.ensures in
    let E = read-estimate a.n f.x f.p c.from_flat-p.ensures in
    rows-predicted f _ _ _ _ (c.predict.ensures ∙ λ k. left_rows f.x c.from_flat-p.result (predict (M k) (front a.i a.u.now) (E k))) c.to_flat-self.ensures
