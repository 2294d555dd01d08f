-- `mix` meets its contract: the predicted probabilities, and each model by its weights.
use mathlib.Core.Path.{ap, ◌∙◌}
use mathlib.Core.List.{[], ◌∷◌}
use Rattle.scalar.specs.Number.{◌⊕◌, ◌⊗◌, +0}
use Rattle.algebra.specs.Matrix.{sum_from}
use Rattle.mixing.specs.Mixing.{predicted, weights, mixed_estimate, mix_estimates}
use Rattle.imm_road.specs.Road.{bank_of}
use Rattle.imm_road.proofs.Roads.mix.Goals as goal

pub returns : goal.returns
unfolding mix_estimates weights predicted sum_from
returns c =
    let a = c.args.self in
    let t = c.args.t in
    let by = mixed_estimate 2 2 (bank_of a.first a.second a.mu0 a.mu1) in
    let first = c.mixed-first.ensures a.mu0 a.mu1 ∙ ap by c.weights-v.ensures in
    let second = c.mixed-second.ensures a.mu0 a.mu1 ∙ ap by c.weights-w.ensures in
    λ i. record { estimates = first i ∷ second i ∷ []; likelihoods = []; probabilities = (+0 ⊕ a.mu0 ⊗ t.a ⊕ a.mu1 ⊗ t.c) ∷ (+0 ⊕ a.mu0 ⊗ t.b ⊕ a.mu1 ⊗ t.d) ∷ [] }
