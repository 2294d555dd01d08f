-- `new` meets its contract: by what Cholesky answers.
use mathlib.Core.Path.{◌≡◌, ◌∙◌}
use Rattle.std.proofs.Common.{rules}
use Rattle.std.specs.Prelude.{Err}
use Rattle.steps.specs.Flat.{motion_from}
use Rattle.steps.proofs.Sizes.{sized_given}
use Rattle.sqrt_kalman.specs.Record.{channel_from}
use Rattle.sqrt_kalman.proofs.Starts.{new-done, new-refused}
use Rattle.sqrt_kalman.proofs.SqrtKalman.new.Goals as goal

pub returns : goal.returns
returns c =
    let a = c.args in
    let s = sized_given a.n a.m a.i c.sized.ensures c.in_ok-size.was in
    new-done (motion_from a.n a.i a.a a.b a.q) (channel_from a.n a.m a.h a.r_diag) a.x0 a.p0 s.passed s.states c.factor_of.ensures c.in_ok-s0.was c.from_cholesky.ensures

pub returns-in_err-s0 : goal.returns-in_err-s0
returns-in_err-s0 c =
    let a = c.args in
    let s = sized_given a.n a.m a.i c.sized.ensures c.in_ok-size.was in
    let e : c.from_residual-in_err-s0.result ≡ Err c.in_err-s0.field-0.0 = search rules in
    e
    ∙ new-refused (motion_from a.n a.i a.a a.b a.q) (channel_from a.n a.m a.h a.r_diag) a.x0 a.p0 s.passed s.states c.factor_of.ensures c.in_err-s0.was
