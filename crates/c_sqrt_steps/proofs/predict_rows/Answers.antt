-- `predict_rows` meets its contract: what is read is the filter's own, and what is put back is what the step leaves.
use mathlib.Core.Path.{sym, ap, ◌∙◌}
use mathlib.Core.Bool.{Bool}
use Rattle.answer.specs.Outcome.{if_fitting}
use Rattle.filtering.specs.SquareRoot.{predict}
use Rattle.c_copies.proofs.Filters.{step_given}
use Rattle.c_sqrt_kalman.specs.Root.{factored_at, stepped_in}
use Rattle.c_sqrt_steps.specs.Step.{motion_at}
use Rattle.c_sqrt_steps.proofs.Steps.{predicts}
use Rattle.c_sqrt_steps.proofs.predict_rows.Goals as goal

pub returns : goal.returns
returns c =
    let a = c.args in
    let f = a.filter.now in
    let u = a.u.now in
    let s = step_given (λ m. 1) _ _ _ _ _ _ c.in_ok-at.ensures in
    predicts f s.at u s.same c.matrix_at-a.ensures c.matrix_at-b.ensures c.matrix_at-q.ensures c.vector_at-v.ensures c.vector_at-x.ensures c.matrix_at-s.ensures c.predict-answer.ensures c.put_pair.ensures
    ∙ ap (λ (b : Bool). stepped_in a.n a.m a.i f (if_fitting b (predict (motion_at a.n a.m a.i f) u (factored_at a.n a.m a.i f)))) (sym s.passed)
