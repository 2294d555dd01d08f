-- `update` meets its contract: four states and two measurements are written out; else by what the inversion answers.
use mathlib.Core.Path.{◌∙◌}
use Rattle.algebra.specs.Inverse.{inv}
use Rattle.algebra.proofs.Inverses.{inv-shape}
use Rattle.sizes.specs.Size.{count}
use Rattle.matrix.proofs.Results.{was_answered, was_refused}
use Rattle.answer.proofs.Exits.{exit}
use Rattle.steps.proofs.Ways.{S, inversion, when_answered, when_refused}
use Rattle.steps.proofs.update.Goals as goal

-- the sizes that are written out
pub returns-in-Four-Two : goal.returns-in-Four-Two
returns-in-Four-Two c = rw (c.in-Four-Two.is-0, c.in-Four-Two.is-1) c.update.ensures

pub returns-in_err-w : goal.returns-in_err-w
returns-in_err-w c =
    let a = c.args in
    let C = S a.n a.m a.x.now a.p.now a.h.now a.r.now a.z.now in
    let isW = inversion a.n a.m a.x.now a.p.now a.h.now a.r.now a.z.now c.propagated-s.ensures c.inverse_of.ensures in
    (λ i. (exit c.from_residual.ensures.1 i, (a.x.now, a.p.now)))
    ∙ when_refused a.n a.m a.x.now a.p.now a.h.now a.r.now a.z.now (was_refused (inv (count a.m) C) isW c.in_err-w.was)

pub returns : goal.returns
returns c =
    let a = c.args in
    let C = S a.n a.m a.x.now a.p.now a.h.now a.r.now a.z.now in
    let isW = inversion a.n a.m a.x.now a.p.now a.h.now a.r.now a.z.now c.propagated-s.ensures c.inverse_of.ensures in
    let is_a = was_answered (inv (count a.m) C) (inv-shape (count a.m) C) isW c.in_ok-w.was in
    when_answered a.n a.m a.x.now a.p.now a.h.now a.r.now a.z.now is_a c.innovation-y.ensures c.gain-k.ensures c.corrected_state.ensures c.corrected_covariance.ensures
