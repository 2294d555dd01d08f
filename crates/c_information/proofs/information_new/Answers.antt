-- `information_new` meets its contract: by what the estimate is told as.
use mathlib.Core.Path.{◌≡◌, refl, ap, ◌∙◌}
use mathlib.Core.List.{[], ◌∷◌}
use mathlib.Core.Bool.{Bool}
use lib.ListN.{length}
use Rattle.std.proofs.Common.{rules}
use Rattle.std.specs.Prelude.{Err}
use Rattle.answer.specs.Answer.{mapped, where_sized}
use Rattle.answer.specs.Told.{written}
use Rattle.matrix.proofs.Results.{if_answered}
use Rattle.layout.specs.Layout.{joined}
use Rattle.information_steps.specs.Step.{arrays_of}
use Rattle.c_copies.proofs.Filters.{parts_given}
use Rattle.c_information.specs.Information.{with_information, of_estimate_at}
use Rattle.c_information.proofs.Calls.{estimate-given, answered-left, refused-left, new-made, refused-as}
use Rattle.c_information.proofs.information_new.Goals as goal

pub returns-in_err-of_estimate : goal.returns-in_err-of_estimate
returns-in_err-of_estimate c =
    let a = c.args in
    let f = a.filter.now in
    let all = joined (a.a.now ∷ a.b.now ∷ a.h.now ∷ a.q.now ∷ a.r.now ∷ a.x0.now ∷ a.p0.now ∷ []) in
    let s = parts_given (λ m. m) a.n a.m a.i (length f) a.a.now a.b.now a.h.now a.q.now a.r.now a.x0.now a.p0.now c.in_ok-at.ensures in
    let e : c.from_residual-in_err-of_estimate.result ≡ Err c.in_err-of_estimate.field-0.0 = search rules in
    let o = refused-left arrays_of _ _ c.in_err-of_estimate.ensures ∙ ap (mapped arrays_of) (estimate-given _ s.at.states a.x0.now a.p0.now s.sixth s.last) in
    if_answered (written f) _ s.passed (refused-as arrays_of (λ b. written f (mapped (with_information a.n a.m a.i all) b)) (of_estimate_at a.n a.x0.now a.p0.now) f o e refl)

pub returns : goal.returns
returns c =
    let a = c.args in
    let f = a.filter.now in
    let all = joined (a.a.now ∷ a.b.now ∷ a.h.now ∷ a.q.now ∷ a.r.now ∷ a.x0.now ∷ a.p0.now ∷ []) in
    let s = parts_given (λ m. m) a.n a.m a.i (length f) a.a.now a.b.now a.h.now a.q.now a.r.now a.x0.now a.p0.now c.in_ok-at.ensures in
    let o = answered-left arrays_of _ _ c.in_ok-of_estimate.ensures ∙ ap (mapped arrays_of) (estimate-given _ s.at.states a.x0.now a.p0.now s.sixth s.last) in
    let copied = c.in_ok-copy_in.ensures ∙ ap (λ (b : Bool). written f (where_sized b all)) s.passed in
    if_answered (written f) _ s.passed (ap (written f) (new-made f s o (λ t. (copied t).1) c.put_pair.ensures))
