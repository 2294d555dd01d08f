-- `with_sensor` meets its contract: the filter, and then each slice.
use native.Mathlib.Omega.{arith}
use mathlib.Core.Path.{◌≡◌, refl, sym, ap, ◌∙◌}
use mathlib.Core.Bool.{Bool, ◌&&◌}
use Prim.Native.Nat.{◌*◌}
use lib.Dec.{eqb}
use Rattle.std.proofs.Common.{rules}
use Rattle.std.specs.Prelude.{Err}
use Rattle.answer.specs.Answer.{where_sized}
use Rattle.answer.proofs.Answers.{passed, passed_is}
use Rattle.matrix.proofs.Results.{value_answered}
use Rattle.c_copies.specs.Filter.{places_of}
use Rattle.c_copies.proofs.Filters.{refused, unfit_of, both_passed, then_unfit, step_given}
use Rattle.c_fusion.specs.Fusion.{is_sensor}
use Rattle.c_fusion.proofs.Sensors.{sensor-tested}
use Rattle.c_fusion.proofs.with_sensor.Goals as goal

pub returns-in_err-fits : goal.returns-in_err-fits
unfolding is_sensor
returns-in_err-fits c =
    let a = c.args in
    let e : c.from_residual-in_err-fits.result ≡ Err c.in_err-fits.field-0.0 = search rules in
    let s = step_given (λ m. m) a.n a.m a.i a.len a.m a.z c.in_ok-at.ensures in
    e
    ∙ refused Err (λ (t : Bool). where_sized t (places_of a.n a.m a.i))
    (then_unfit s.passed (unfit_of (eqb a.h (a.m * a.n) && eqb a.w (a.m * a.m)) tt (c.in_err-fits.ensures ∙ ap (λ (t : Bool). where_sized t tt) (sensor-tested s.at a.h a.w)))) refl

pub returns : goal.returns
unfolding is_sensor
returns c =
    let a = c.args in
    let s = step_given (λ m. m) a.n a.m a.i a.len a.m a.z c.in_ok-at.ensures in
    value_answered (places_of a.n a.m a.i) (both_passed s.passed (sym (sensor-tested s.at a.h a.w) ∙ passed _ _ (sym c.in_ok-fits.ensures))) (passed_is _ _ (sym c.in_ok-at.ensures))

pub overflow_sub-at-2 : goal.overflow_sub-at-2
overflow_sub-at-2 c = let a = c.args in omega (arith, (step_given (λ m. m) a.n a.m a.i a.len a.m a.z c.in_ok-at.ensures).at)

pub overflow_sub-at : goal.overflow_sub-at
overflow_sub-at c = let a = c.args in omega (arith, (step_given (λ m. m) a.n a.m a.i a.len a.m a.z c.in_ok-at.ensures).at)
