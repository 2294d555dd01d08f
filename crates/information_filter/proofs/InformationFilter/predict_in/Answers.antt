-- `predict_in` meets its contract: the rows that it reads are those of the record; by what the step on rows tells.
use Rattle.answer.proofs.Exits.{exit}
use Rattle.steps.proofs.Sizes.{fitted_given}
use Rattle.steps.proofs.Records.{by_sizes}
use Rattle.information_steps.proofs.Ways.{plain-predict}
use Rattle.information_filter.specs.Record.{holding, predict_flat}
use Rattle.information_filter.proofs.Ways.{read-predict, went, stopped}
use Rattle.information_filter.proofs.InformationFilter.predict_in.Goals as goal

pub returns-in_err-predict : goal.returns-in_err-predict
returns-in_err-predict c =
    let f = c.args.self.now in
    let u = c.args.u.now in
    let s = fitted_given _ _ _ _ _ c.fitted.ensures c.in_ok-n.was in
    let g = read-predict f _ c.from_flat-omega.ensures _ _ u c.from_flat-a.ensures c.from_flat-b.ensures c.from_flat-q.ensures c.in_err-predict.ensures in
    by_sizes (λ t. t) (holding f) f (λ n i. predict_flat n i f u) s.passed s.states s.inputs (stopped f _ (plain-predict _ _ _) g (exit c.from_residual-in_err-predict.ensures.1))

pub returns : goal.returns
returns c =
    let f = c.args.self.now in
    let u = c.args.u.now in
    let s = fitted_given _ _ _ _ _ c.fitted.ensures c.in_ok-n.was in
    let g = read-predict f _ c.from_flat-omega.ensures _ _ u c.from_flat-a.ensures c.from_flat-b.ensures c.from_flat-q.ensures c.in_ok-predict.ensures in
    by_sizes (λ t. t) (holding f) f (λ n i. predict_flat n i f u) s.passed s.states s.inputs (went f _ (plain-predict _ _ _) g c.to_flat-self.ensures)
