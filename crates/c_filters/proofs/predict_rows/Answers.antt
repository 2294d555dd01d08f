-- `predict_rows` meets its contract: what is read is the filter's own, and what is put back its estimate.
use mathlib.Core.Path.{sym, ap, ◌∙◌}
use mathlib.Core.Bool.{Bool}
use lib.ListN.{length}
use Rattle.std.specs.Prelude.{Ok}
use Rattle.answer.specs.Outcome.{if_fitting}
use Rattle.filtering.specs.Linear.{predict}
use Rattle.c_copies.specs.Filter.{motion_at, estimate_at, predicted_in}
use Rattle.c_copies.proofs.Filters.{step_given}
use Rattle.c_copies.proofs.Steps.{predicts}
use Rattle.c_filters.proofs.predict_rows.Goals as goal

pub returns : goal.returns
unfolding predict
returns c =
    let a = c.args in
    let f = a.filter.now in
    let u = a.u.now in
    let s = step_given (λ m. m) a.n a.m a.i (length f) a.i (length u) c.in_ok-at.ensures in
    let is = predicts f s.at u s.same c.matrix_at-a.ensures c.matrix_at-b.ensures c.matrix_at-q.ensures c.vector_at-v.ensures c.vector_at-x.ensures c.matrix_at-p.ensures c.predict.ensures c.put_pair.ensures in
    (λ t. (Ok tt, is t))
    ∙ ap (λ (b : Bool). predicted_in a.n a.m a.i f (if_fitting b (predict (motion_at a.n a.m a.i f) u (estimate_at a.n a.m a.i f)))) (sym s.passed)
