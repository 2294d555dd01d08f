-- `mix_in` meets its contract: the record around the rows of the step.
use mathlib.Core.Path.{◌∙◌}
use Rattle.std.specs.Prelude.{Ok}
use Rattle.answer.specs.Outcome.{into, handed}
use Rattle.matrix.proofs.Results.{as_answered}
use Rattle.mixing.specs.Mixing.{mix_estimates}
use Rattle.steps.proofs.Sizes.{sized_given}
use Rattle.imm_steps.proofs.Holders.{mixed-held}
use Rattle.imm.specs.Record.{bank_of, transition_of, holding}
use Rattle.imm.proofs.Records.{held, transition-held, probabilities_are, around}
use Rattle.imm.proofs.ImmEstimator.mix_in.Goals as goal

pub returns : goal.returns
returns c =
    let e = c.args.self.now in
    let s = sized_given e.n e.m e.k c.sized.ensures c.in_ok-n.was in
    let k = s.inputs in
    let h = held e c.in_ok-n.n c.in_ok-n.k s.states k c.states-x.ensures c.covariances-p.ensures in
    let B = mix_estimates e.n e.k (transition_of e) (bank_of e) in
    let is = c.mix.ensures ∙ mixed-held h c.from_flat-t.result e.mu (transition-held e c.in_ok-n.k k c.from_flat-t.ensures) (probabilities_are e c.in_ok-n.k k) in
    as_answered (λ o. handed (λ a. a) (holding e) e (into o)) B s.passed (λ i. (Ok tt, around e B c.with_estimates-self.ensures is i))
