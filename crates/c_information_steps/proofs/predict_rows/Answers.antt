-- `predict_rows` meets its contract: what is read is the filter's own; by what the step on rows tells.
use mathlib.Core.Path.{◌≡◌, ap, ◌∙◌}
use lib.ListN.{length}
use Rattle.std.proofs.Common.{rules}
use Rattle.std.specs.Prelude.{Err}
use Rattle.answer.specs.Outcome.{handed}
use Rattle.information_steps.specs.Step.{arrays_of}
use Rattle.information_steps.proofs.Ways.{plain-predict}
use Rattle.filtering.specs.Information.{predict}
use Rattle.c_copies.specs.Filter.{motion_at}
use Rattle.c_copies.proofs.Filters.{step_given}
use Rattle.c_information.specs.Information.{information_at}
use Rattle.c_information.proofs.Calls.{fitted-step}
use Rattle.c_information_steps.proofs.Updates.{predict-read, stepped, stopped}
use Rattle.c_information_steps.proofs.predict_rows.Goals as goal

pub returns-in_err-predict : goal.returns-in_err-predict
returns-in_err-predict c =
    let a = c.args in
    let f = a.filter.now in
    let u = a.u.now in
    let s = step_given (λ m. m) a.n a.m a.i (length f) a.i (length u) c.in_ok-at.ensures in
    let d = predict-read f s.at u s.same c.matrix_at-a.ensures c.matrix_at-b.ensures c.matrix_at-q.ensures c.vector_at-v.ensures c.vector_at-xi.ensures c.matrix_at-omega.ensures in
    let e : c.from_residual-in_err-predict.result ≡ Err c.in_err-predict.field-0.0 = search rules in
    fitted-step a.n a.m a.i f (predict (motion_at a.n a.m a.i f) u (information_at a.n a.m a.i f)) s.passed
    (stopped f s.at _ _ (plain-predict _ _ _) (c.in_err-predict.ensures ∙ ap (handed (λ t. t) arrays_of (c.matrix_at-omega.result, c.vector_at-xi.result)) d) e)

pub returns : goal.returns
returns c =
    let a = c.args in
    let f = a.filter.now in
    let u = a.u.now in
    let s = step_given (λ m. m) a.n a.m a.i (length f) a.i (length u) c.in_ok-at.ensures in
    let d = predict-read f s.at u s.same c.matrix_at-a.ensures c.matrix_at-b.ensures c.matrix_at-q.ensures c.vector_at-v.ensures c.vector_at-xi.ensures c.matrix_at-omega.ensures in
    fitted-step a.n a.m a.i f (predict (motion_at a.n a.m a.i f) u (information_at a.n a.m a.i f)) s.passed
    (stepped f s.at _ _ (plain-predict _ _ _) (c.in_ok-predict.ensures ∙ ap (handed (λ t. t) arrays_of (c.matrix_at-omega.result, c.vector_at-xi.result)) d) c.put_pair.ensures)
