-- `update_in` meets its contract: the rows that it reads are those of the record; by what the inversion of the noise answers.
use Rattle.matrix.specs.Result.{as_vector}
use Rattle.answer.proofs.Exits.{exit}
use Rattle.steps.proofs.Sizes.{fitted_given}
use Rattle.steps.proofs.Records.{by_sizes}
use Rattle.algebra.specs.Array.{cut}
use Rattle.information_filter.specs.Record.{holding, update_flat}
use Rattle.information_filter.proofs.Ways.{updated, not_updated}
use Rattle.information_filter.proofs.InformationFilter.update_in.Goals as goal

pub returns-in_err-w : goal.returns-in_err-w
returns-in_err-w c =
    let f = c.args.self.now in
    let z = c.args.z.now in
    let s = fitted_given _ _ _ _ _ c.fitted.ensures c.in_ok-n.was in
    by_sizes as_vector (holding f) f (λ n m. update_flat n m f (cut m z)) s.passed s.states s.measurements
    (not_updated f _ _ z c.from_flat-r.ensures c.inverse_of.ensures c.in_err-w.was (exit c.from_residual-in_err-w.ensures.1))

pub returns : goal.returns
returns c =
    let f = c.args.self.now in
    let z = c.args.z.now in
    let s = fitted_given _ _ _ _ _ c.fitted.ensures c.in_ok-n.was in
    by_sizes as_vector (holding f) f (λ n m. update_flat n m f (cut m z)) s.passed s.states s.measurements
    (updated f _ _ z c.from_flat-r.ensures c.inverse_of.ensures c.in_ok-w.was c.from_flat-h.ensures c.from_flat-omega.ensures c.update_by-answer.ensures c.to_flat-self.ensures)
