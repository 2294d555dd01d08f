-- Mixing of K models of n states, in the order of rounding of imm.rs; Bar-Shalom, Li and Kirubarajan, chapter 11. Definitions only.
use Rattle.std.specs.Prelude.{ℕ, cond, List, [], get_or, pos}
use Rattle.std.specs.Float.{binary64}
use Rattle.std.specs.Float.Ieee.{lt, of_int}
use Rattle.scalar.specs.Number.{◌⊕◌, ◌⊗◌, ◌⊘◌, +0, one, epsilon}
use Rattle.answer.specs.Table.{table}
use Rattle.algebra.specs.Matrix.{Vector, Matrix, at, cell, mat, sum_of, vec_sub}
use Rattle.filtering.specs.Filter.{Estimate, estimate}

-- each model's estimate, the likelihood of the measurement under it, and its probability
pub record Bank : Type 0 where
  pub estimates : List Estimate
  pub likelihoods : Vector
  pub probabilities : Vector

abbrev pub model : Bank → ℕ → Estimate
model B i = get_or B.estimates i (estimate [] [])

-- 1 / K each
unfoldable pub uniform : ℕ → Vector
uniform K = table K (λ j. one ⊘ of_int binary64 (pos K))

-- the models' states, each times its weight of w, summed
unfoldable pub weighted : ℕ → ℕ → Bank → Vector → Vector
weighted n K B w = table n (λ r. sum_of K (λ i. at (model B i).state r ⊗ at w i))

-- ---- mixing: T i j is the probability of model j after model i

-- each model's predicted probability
unfoldable pub predicted : ℕ → Matrix → Vector → Vector
predicted K T μ = table K (λ j. sum_of K (λ i. at μ i ⊗ cell T i j))

-- the weight of each model in model j: all +0 where the predicted probability of j is not above EPSILON
unfoldable pub weights : ℕ → Matrix → Vector → ℕ → Vector
weights K T μ j =
    let c = at (predicted K T μ) j in
    table K (λ i. cond (lt epsilon c) (at μ i ⊗ cell T i j ⊘ c) +0)

-- Pᵢ + d dᵀ, with d the model's state less the mixed state x; the product is a sum of one term
unfoldable pub spread : ℕ → Estimate → Vector → Matrix
spread n e x =
    let d = vec_sub n e.state x in
    mat n n (λ r c. cell e.covariance r c ⊕ (+0 ⊕ at d r ⊗ at d c))

-- the models' spreads around x, each times its weight of w, summed. A weight of zero does not hide a spread that overflows:
-- infinity × 0 is NaN, so beside states of 1e200 a covariance of an unlikely model is NaN where its state is zero
unfoldable pub mixed_covariance : ℕ → ℕ → Bank → Vector → Vector → Matrix
mixed_covariance n K B w x = mat n n (λ r c. sum_of K (λ i. cell (spread n (model B i) x) r c ⊗ at w i))

unfoldable pub mixed_estimate : ℕ → ℕ → Bank → Vector → Estimate
mixed_estimate n K B w =
    let x = weighted n K B w in
    estimate x (mixed_covariance n K B w x)

unfoldable pub mix_estimates : ℕ → ℕ → Matrix → Bank → Bank
mix_estimates n K T B = record {
  estimates = table K (λ j. mixed_estimate n K B (weights K T B.probabilities j));
  likelihoods = B.likelihoods;
  probabilities = predicted K T B.probabilities;
}

-- ---- each probability × its likelihood, as a part of their sum; all alike where the sum is below EPSILON: a NaN is not
unfoldable pub update_probabilities : ℕ → Bank → Bank
update_probabilities K B =
    let p = table K (λ k. at B.probabilities k ⊗ at B.likelihoods k) in
    let s = sum_of K (at p) in
    record { estimates = B.estimates; likelihoods = B.likelihoods; probabilities = cond (lt s epsilon) (uniform K) (table K (λ k. at p k ⊘ s)) }

-- the states by their probabilities
unfoldable pub fused_estimate : ℕ → ℕ → Bank → Vector
fused_estimate n K B = weighted n K B B.probabilities
