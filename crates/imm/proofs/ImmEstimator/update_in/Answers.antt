-- `update_in` meets its contract: the record with other probabilities.
use mathlib.Core.Path.{ap, ◌∙◌}
use Rattle.std.specs.Prelude.{Ok}
use Rattle.answer.specs.Outcome.{into, handed}
use Rattle.algebra.specs.Array.{pad_row}
use Rattle.matrix.proofs.Results.{as_answered}
use Rattle.mixing.specs.Mixing.{update_probabilities}
use Rattle.steps.proofs.Sizes.{sized_given}
use Rattle.imm_steps.proofs.Holders.{probabilities-held}
use Rattle.imm.specs.Record.{bank_of, keeping, weighing}
use Rattle.imm.proofs.Records.{probabilities_are, likelihoods_are}
use Rattle.imm.proofs.ImmEstimator.update_in.Goals as goal

pub returns : goal.returns
returns c =
    let e = c.args.self.now in
    let s = sized_given e.n e.m e.k c.sized.ensures c.in_ok-k.was in
    let k = s.inputs in
    let μ = c.update_probabilities.ensures ∙ ap pad_row (probabilities-held c.in_ok-k.k (bank_of e) c.likelihoods.result e.mu k (likelihoods_are e c.in_ok-k.k k c.likelihoods.ensures) (probabilities_are e c.in_ok-k.k k)) in
    as_answered (λ o. handed (λ a. a) (weighing e) e (into o)) (update_probabilities e.k (bank_of e)) s.passed (λ i. (Ok tt, keeping e e.models (μ i)))
