-- `predict_in` meets its contract: the rows that it reads are those of the record.
use mathlib.Core.Path.{◌∙◌}
use Rattle.answer.specs.Outcome.{handed}
use Rattle.sizes.specs.Size.{count, front}
use Rattle.filtering.specs.SquareRoot.{predict}
use Rattle.steps.proofs.Flats.{read-motion}
use Rattle.steps.proofs.Records.{around, by_sizes}
use Rattle.steps.proofs.Sizes.{fitted_given}
use Rattle.sqrt_steps.specs.Step.{arrays_of}
use Rattle.sqrt_kalman.specs.Record.{flats_of, keeping, predicting}
use Rattle.sqrt_kalman.proofs.Records.{predict_by, read-factored, rows-flat}
use Rattle.sqrt_kalman.proofs.SqrtKalman.predict_in.Goals as goal

pub returns : goal.returns
returns c =
    let f = c.args.self.now in
    let u = c.args.u.now in
    let N = c.in_ok-n.n in
    let I = c.in_ok-n.i in
    let s = fitted_given f.n f.m f.i f.i c.args.k c.fitted.ensures c.in_ok-n.was in
    let M = read-motion N I f.a f.b f.q c.from_flat-a.ensures c.from_flat-b.ensures c.from_flat-q.ensures in
    let F = read-factored N f.x f.s_chol c.factor_rows-s.ensures.0 in
    let step = predict_by f.a f.b f.q u f.x f.s_chol in
    around (λ t. t) flats_of (keeping f) (f.x, f.s_chol) (predicting f u c.args.k)
    (by_sizes (λ t. t) flats_of (f.x, f.s_chol) step s.passed s.states s.inputs
    (rows-flat (λ t. t) f.x f.s_chol c.factor_rows-s.result (step (count N) (count I)) c.factor_rows-s.ensures.1
    (c.predict-answer.ensures ∙ λ k. handed (λ t. t) arrays_of (f.x, c.factor_rows-s.result) (predict (M k) (front I u) (F k))) c.to_flat-self.ensures))
