-- `reset_in` meets its contract: by what the estimate is told as.
use Rattle.answer.specs.Outcome.{into}
use Rattle.filtering.specs.Information.{of_estimate}
use Rattle.answer.proofs.Exits.{exit}
use Rattle.steps.specs.Flat.{estimate_from}
use Rattle.steps.proofs.Sizes.{fitted_given}
use Rattle.steps.proofs.Records.{by_sizes}
use Rattle.information_steps.proofs.Ways.{plain-estimate}
use Rattle.information_filter.specs.Record.{holding}
use Rattle.information_filter.proofs.Ways.{went, stopped}
use Rattle.information_filter.proofs.InformationFilter.reset_in.Goals as goal

pub returns-in_err-of_estimate : goal.returns-in_err-of_estimate
returns-in_err-of_estimate c =
    let a = c.args in
    let f = a.self.now in
    let s = fitted_given _ _ _ _ _ c.fitted.ensures c.in_ok-n.was in
    by_sizes (λ t. t) (holding f) f (λ n k. into (of_estimate n (estimate_from n a.x.now a.p.now))) s.passed s.states s.states
    (stopped f _ (plain-estimate _ _) c.in_err-of_estimate.ensures (exit c.from_residual-in_err-of_estimate.ensures.1))

pub returns : goal.returns
returns c =
    let a = c.args in
    let f = a.self.now in
    let s = fitted_given _ _ _ _ _ c.fitted.ensures c.in_ok-n.was in
    by_sizes (λ t. t) (holding f) f (λ n k. into (of_estimate n (estimate_from n a.x.now a.p.now))) s.passed s.states s.states
    (went f _ (plain-estimate _ _) c.in_ok-of_estimate.ensures c.to_flat-self.ensures)
