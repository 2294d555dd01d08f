-- `with_sensors` meets its contract: the filter, and then the slice by division.
use mathlib.Core.Path.{◌≡◌, refl, sym, ap, ◌∙◌}
use mathlib.Core.Bool.{Bool}
use Prim.Native.Nat.{◌*◌}
use lib.Dec.{eqb}
use Rattle.std.proofs.Common.{rules}
use Rattle.std.specs.Prelude.{Err}
use Rattle.answer.specs.Answer.{where_sized}
use Rattle.answer.proofs.Answers.{passed}
use Rattle.matrix.proofs.Results.{value_answered}
use Rattle.c_copies.specs.Filter.{is_step_by, places_of}
use Rattle.c_copies.proofs.Filters.{refused, unfit_of, both_passed, then_unfit, filter_given}
use Rattle.c_fusion.specs.Fusion.{reading_length}
use Rattle.c_fusion.proofs.Fusions.{each-tested}
use Rattle.c_fusion.proofs.with_sensors.Goals as goal

pub returns-in_err-fits : goal.returns-in_err-fits
unfolding is_step_by
returns-in_err-fits c =
    let a = c.args in
    let e : c.from_residual-in_err-fits.result ≡ Err c.in_err-fits.field-0.0 = search rules in
    let s = filter_given (λ m. m) a.n a.m a.i a.len c.in_ok-at.ensures in
    e
    ∙ refused Err (λ (t : Bool). where_sized t (places_of a.n a.m a.i))
    (then_unfit s.passed (unfit_of (eqb a.k (a.count * reading_length a.n a.m)) tt (c.in_err-fits.ensures ∙ ap (λ (t : Bool). where_sized t tt) (each-tested s.at a.count a.k c.sensor_places-each.ensures)))) refl

pub returns : goal.returns
unfolding is_step_by
returns c =
    let a = c.args in
    let s = filter_given (λ m. m) a.n a.m a.i a.len c.in_ok-at.ensures in
    value_answered (places_of a.n a.m a.i) (both_passed s.passed (sym (each-tested s.at a.count a.k c.sensor_places-each.ensures) ∙ passed _ _ (sym c.in_ok-fits.ensures))) s.is
