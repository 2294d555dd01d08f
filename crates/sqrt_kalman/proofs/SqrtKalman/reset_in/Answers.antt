-- `reset_in` meets its contract: by what Cholesky answers.
use mathlib.Core.Path.{◌≡◌, ◌∙◌}
use Rattle.std.proofs.Common.{rules}
use Rattle.std.specs.Prelude.{Err}
use Rattle.steps.proofs.Records.{around}
use Rattle.steps.proofs.Sizes.{fitted_given}
use Rattle.sqrt_kalman.specs.Record.{flats_of, keeping, resetting}
use Rattle.sqrt_kalman.proofs.Starts.{reset_done, reset_refused}
use Rattle.sqrt_kalman.proofs.SqrtKalman.reset_in.Goals as goal

pub returns : goal.returns
returns c =
    let a = c.args in
    let f = a.self.now in
    let s = fitted_given f.n f.m f.i f.n a.k c.fitted.ensures c.in_ok-n.was in
    around (λ t. t) flats_of (keeping f) (f.x, f.s_chol) (resetting f a.x.now a.p.now a.k)
    (reset_done f.x f.s_chol a.x.now a.p.now f.n s.passed s.states c.factor_of.ensures c.in_ok-s.was c.leading-self.ensures c.to_flat-self.ensures)

pub returns-in_err-s : goal.returns-in_err-s
returns-in_err-s c =
    let a = c.args in
    let f = a.self.now in
    let s = fitted_given f.n f.m f.i f.n a.k c.fitted.ensures c.in_ok-n.was in
    let e : c.from_residual-in_err-s.result ≡ Err c.in_err-s.field-0.0 = search rules in
    around (λ t. t) flats_of (keeping f) (f.x, f.s_chol) (resetting f a.x.now a.p.now a.k)
    ((λ i. (e i, (f.x, f.s_chol))) ∙ reset_refused f.x f.s_chol a.x.now a.p.now f.n s.passed s.states c.factor_of.ensures c.in_err-s.was)
