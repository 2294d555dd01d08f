-- `update` meets its contract: by what the inversion answers, whose two rows stand in an array.
use mathlib.Core.Path.{sym, ap, ◌∙◌}
use Rattle.algebra.specs.Array.{cut, used}
use Rattle.algebra.specs.Inverse.{inv}
use Rattle.sizes.specs.declared.Size.TheVariants.{Two, Four}
use Rattle.answer.proofs.Exits.{exit}
use Rattle.small_inverse.proofs.Two.{two_read}
use Rattle.steps.proofs.Ways.{S, whole, when_answered, when_refused}
use Rattle.steps.proofs.four.update.Goals as goal

pub returns-in_err-a : goal.returns-in_err-a
unfolding used cut
returns-in_err-a c =
    let a = c.args in
    let is_a = ap (inv 2) (sym (whole Four Two a.x.now a.p.now a.h.now a.r.now a.z.now c.propagated_two-s.ensures)) ∙ sym c.inverse_two.ensures ∙ c.in_err-a.was in
    (λ i. (exit c.from_residual.ensures.1 i, (a.x.now, a.p.now))) ∙ when_refused Four Two a.x.now a.p.now a.h.now a.r.now a.z.now is_a

pub returns : goal.returns
unfolding used cut
returns c =
    let a = c.args in
    let is_a = ap (inv 2) (sym (whole Four Two a.x.now a.p.now a.h.now a.r.now a.z.now c.propagated_two-s.ensures)) ∙ sym c.inverse_two.ensures ∙ c.in_ok-a.was in
    when_answered Four Two a.x.now a.p.now a.h.now a.r.now a.z.now (sym (two_read (S Four Two a.x.now a.p.now a.h.now a.r.now a.z.now) is_a)) c.innovation-y.ensures c.gain-k.ensures c.corrected_state.ensures c.corrected_covariance.ensures
