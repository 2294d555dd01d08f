-- `update_rows` meets its contract: by what the update on rows answers.
use mathlib.Core.Path.{◌∙◌}
use Rattle.filtering.proofs.Shapes.{way}
use Rattle.answer.proofs.Exits.{exit}
use Rattle.kalman.specs.Record.{keeping}
use Rattle.kalman.proofs.Steps.{read-update, rows-refused, rows-answered}
use Rattle.kalman.proofs.KalmanFilter.update_rows.Goals as goal

pub returns-in_err-y : goal.returns-in_err-y
returns-in_err-y c =
    let a = c.args in
    let f = a.self.now in
    let q = read-update a.n a.m f.h f.r a.z.now f.x f.p c.from_flat-h.ensures c.from_flat-r.ensures c.from_flat-p.ensures c.in_err-y.ensures in
    (λ k. (exit c.from_residual.ensures.1 k, keeping f (c.update.new.x, f.p))) ∙ rows-refused f c.from_flat-p.result (way _ _ _) q

pub returns : goal.returns
returns c =
    let a = c.args in
    let f = a.self.now in
    let q = read-update a.n a.m f.h f.r a.z.now f.x f.p c.from_flat-h.ensures c.from_flat-r.ensures c.from_flat-p.ensures c.in_ok-y.ensures in
    rows-answered f c.from_flat-p.result (way _ _ _) q c.to_flat-self.ensures
