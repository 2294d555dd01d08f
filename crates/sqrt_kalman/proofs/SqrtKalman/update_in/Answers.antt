-- `update_in` meets its contract: the rows that it reads are those of the record.
use mathlib.Core.Path.{◌∙◌}
use Rattle.answer.specs.Outcome.{handed}
use Rattle.algebra.specs.Array.{cut}
use Rattle.sizes.specs.Size.{count, front}
use Rattle.matrix.specs.Result.{as_vector}
use Rattle.filtering.specs.SquareRoot.{update}
use Rattle.steps.proofs.Records.{around, by_sizes}
use Rattle.steps.proofs.Sizes.{fitted_given}
use Rattle.sqrt_steps.specs.Step.{arrays_of}
use Rattle.sqrt_kalman.specs.Record.{flats_of, keeping, updating}
use Rattle.sqrt_kalman.proofs.Records.{update_by, read-channel, read-factored, rows-flat}
use Rattle.sqrt_kalman.proofs.SqrtKalman.update_in.Goals as goal

pub returns : goal.returns
returns c =
    let f = c.args.self.now in
    let z = c.args.z.now in
    let N = c.in_ok-n.n in
    let M = c.in_ok-n.m in
    let s = fitted_given f.n f.m f.i f.m c.args.k c.fitted.ensures c.in_ok-n.was in
    let Y = read-channel N M f.h f.r_diag c.from_flat-h.ensures in
    let F = read-factored N f.x f.s_chol c.factor_rows-s.ensures.0 in
    let step = update_by f.h f.r_diag z f.x f.s_chol in
    around as_vector flats_of (keeping f) (f.x, f.s_chol) (updating f (cut f.m z) c.args.k)
    (by_sizes as_vector flats_of (f.x, f.s_chol) step s.passed s.states s.measurements
    (rows-flat as_vector f.x f.s_chol c.factor_rows-s.result (step (count N) (count M)) c.factor_rows-s.ensures.1
    (c.update-answer.ensures ∙ λ k. handed as_vector arrays_of (f.x, c.factor_rows-s.result) (update (Y k) (front M z) (F k))) c.to_flat-self.ensures))
