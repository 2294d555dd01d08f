-- `filter` meets its contract: the sizes, and then the length.
use mathlib.Core.Path.{◌≡◌, refl, ap, ◌∙◌}
use mathlib.Core.Bool.{Bool}
use borrow.Author.Tests.{eq-eqb}
use Rattle.std.proofs.Common.{rules}
use Rattle.std.specs.Prelude.{Err}
use Rattle.answer.specs.Answer.{where_sized}
use Rattle.matrix.proofs.Results.{value_answered}
use Rattle.steps.proofs.Sizes.{sized_given}
use Rattle.c_copies.specs.declared.Places.{Places}
use Rattle.c_copies.specs.Filter.{places_by, is_filter_by}
use Rattle.c_copies.proofs.Filters.{refused, both_passed, then_unfit, length_given, length-unfit}
use Rattle.c_copies.proofs.filter.Goals as goal

pub returns-in_err-fits : goal.returns-in_err-fits
unfolding is_filter_by
returns-in_err-fits g c =
    let a = c.args in
    let w = g.W.Noise.columns in
    let s = sized_given a.n a.m a.i c.sized.ensures c.in_ok-states.was in
    let all = c.place_parts-at.ensures ∙ λ t. places_by w (s.states t) (s.measurements t) (s.inputs t) in
    let e : c.from_residual-in_err-fits.result ≡ Err c.in_err-fits.field-0.0 = search rules in
    e ∙ refused Err (λ (t : Bool). where_sized t (places_by w a.n a.m a.i)) (then_unfit s.passed (length-unfit a.len c.in_err-fits.ensures (ap (λ (z : Places). z.len) all))) refl

pub returns : goal.returns
unfolding is_filter_by
returns g c =
    let a = c.args in
    let w = g.W.Noise.columns in
    let s = sized_given a.n a.m a.i c.sized.ensures c.in_ok-states.was in
    let all = c.place_parts-at.ensures ∙ λ t. places_by w (s.states t) (s.measurements t) (s.inputs t) in
    value_answered (places_by w a.n a.m a.i) (both_passed s.passed (eq-eqb _ _ (length_given c.in_ok-fits.ensures ∙ ap (λ (z : Places). z.len) all))) all
