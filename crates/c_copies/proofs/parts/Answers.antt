-- `parts` meets its contract: the filter, and then the length of each part.
use mathlib.Core.Path.{◌≡◌, refl, sym, ap, ◌∙◌}
use mathlib.Core.Bool.{Bool}
use Rattle.std.proofs.Common.{rules}
use Rattle.std.specs.Prelude.{Err}
use Rattle.answer.specs.Answer.{where_sized}
use Rattle.answer.proofs.Answers.{passed}
use Rattle.matrix.proofs.Results.{value_answered}
use Rattle.c_copies.specs.Filter.{places_by, is_parts_by}
use Rattle.c_copies.proofs.Filters.{refused, unfit_of, both_passed, then_unfit, filter_given, lengths, lengths-tested}
use Rattle.c_copies.proofs.parts.Goals as goal

pub returns-in_err-fits : goal.returns-in_err-fits
unfolding is_parts_by
returns-in_err-fits g c =
    let a = c.args in
    let w = g.W.Noise.columns in
    let s = filter_given w a.n a.m a.i a.len c.in_ok-at.ensures in
    let e : c.from_residual-in_err-fits.result ≡ Err c.in_err-fits.field-0.0 = search rules in
    e
    ∙ refused Err (λ (t : Bool). where_sized t (places_by w a.n a.m a.i))
    (then_unfit s.passed (unfit_of (lengths w a.n a.m a.i a.a a.b a.h a.q a.r a.x a.p) tt (c.in_err-fits.ensures ∙ ap (λ (t : Bool). where_sized t tt) (lengths-tested s.at a.a a.b a.h a.q a.r a.x a.p))))
    refl

pub returns : goal.returns
unfolding is_parts_by
returns g c =
    let a = c.args in
    let w = g.W.Noise.columns in
    let s = filter_given w a.n a.m a.i a.len c.in_ok-at.ensures in
    value_answered (places_by w a.n a.m a.i) (both_passed s.passed (sym (lengths-tested s.at a.a a.b a.h a.q a.r a.x a.p) ∙ passed _ _ (sym c.in_ok-fits.ensures))) s.is
