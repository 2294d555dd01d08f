-- The record of a bank of models: what it holds, and what each method makes of it. Definitions only.
use Rattle.std.specs.Prelude.{ℕ, ◌&&◌, List, [], ltb, get_or, Float}
use Rattle.std.specs.Float.{nan}
use Rattle.answer.specs.declared.Step.{Step}
use Rattle.answer.specs.Answer.{Answer, where_sized}
use Rattle.answer.specs.Outcome.{into, handed}
use Rattle.answer.specs.Table.{table}
use Rattle.algebra.specs.Matrix.{Matrix, at, row}
use Rattle.algebra.specs.Array.{cut, used, used_flat, pad_row, pad, rows_of_flat, flat_of_rows}
use Rattle.matrix.specs.Result.{as_vector}
use Rattle.filtering.specs.Filter.{estimate}
use Rattle.mixing.specs.Mixing.{Bank, model, uniform, mix_estimates, update_probabilities, fused_estimate}
use Rattle.steps.specs.Step.{well_sized}
use Rattle.imm.specs.declared.ImmModel.{ImmModel}
use Rattle.imm.specs.declared.ImmEstimator.{ImmEstimator}

abbrev Rows : Type 0
Rows = List (List Float)

-- ---- the models
abbrev pub model_at : List ImmModel → ℕ → ImmModel
model_at M i = get_or M i (record { a = []; x_hat = []; p = []; q = []; likelihood = nan })

-- their states, covariances and likelihoods, all four
abbrev pub states_of : List ImmModel → Rows
states_of M = table 4 (λ i. (model_at M i).x_hat)

abbrev pub covariances_of : List ImmModel → List Rows
covariances_of M = table 4 (λ i. rows_of_flat (model_at M i).p)

abbrev pub likelihoods_of : List ImmModel → List Float
likelihoods_of M = table 4 (λ i. (model_at M i).likelihood)

-- a model with other numbers for its state and, as rows, its covariance
abbrev pub with_estimate : ImmModel → List Float → Rows → ImmModel
with_estimate m x p = record { a = m.a; x_hat = x; p = flat_of_rows p; q = m.q; likelihood = m.likelihood }

abbrev pub with_estimates : List ImmModel → Rows → List Rows → List ImmModel
with_estimates M x p = table 4 (λ i. with_estimate (model_at M i) (row x i) (get_or p i []))

-- ---- the bank that a record holds: the used parts of its first k models
abbrev pub bank_of : ImmEstimator → Bank
bank_of e = record {
  estimates = table e.k (λ i. estimate (cut e.n (model_at e.models i).x_hat) (used_flat e.n e.n (model_at e.models i).p));
  likelihoods = table e.k (λ i. (model_at e.models i).likelihood);
  probabilities = cut e.k e.mu;
}

abbrev pub transition_of : ImmEstimator → Matrix
transition_of e = used_flat e.k e.k e.transition

-- the record with other models and probabilities
abbrev pub keeping : ImmEstimator → List ImmModel → List Float → ImmEstimator
keeping e M μ = record { n = e.n; m = e.m; k = e.k; models = M; transition = e.transition; mu = μ; c = e.c; r = e.r }

-- with the estimates and the probabilities of a bank, +0 outside; a, q and the likelihoods stay as they stand
abbrev pub holding : ImmEstimator → Bank → ImmEstimator
holding e B = keeping e (table 4 (λ i. with_estimate (model_at e.models i) (pad_row (model B i).state) (pad (model B i).covariance))) (pad_row B.probabilities)

-- with its probabilities alone
abbrev pub weighing : ImmEstimator → Bank → ImmEstimator
weighing e B = keeping e e.models (pad_row B.probabilities)

-- ---- what the steps answer: refused where a size does not fit, else the bank after the step
abbrev pub mixing : ImmEstimator → Answer Bank
mixing e = where_sized (well_sized e.n e.m e.k) (mix_estimates e.n e.k (transition_of e) (bank_of e))

abbrev pub updating : ImmEstimator → Answer Bank
updating e = where_sized (well_sized e.n e.m e.k) (update_probabilities e.k (bank_of e))

-- ---- and what each method hands back
abbrev pub stepped : (ImmEstimator → Bank → ImmEstimator) → ImmEstimator → Answer Bank → Step (Unit {0}) ImmEstimator
stepped put e a = let w = handed (λ t. t) (put e) e (into a) in record { answer = w.0; left = w.1 }

abbrev pub mix_of : ImmEstimator → Step (Unit {0}) ImmEstimator
mix_of e = stepped holding e (mixing e)

abbrev pub probabilities_of : ImmEstimator → Step (Unit {0}) ImmEstimator
probabilities_of e = stepped weighing e (updating e)

abbrev pub fused_of : ImmEstimator → Answer (List Float)
fused_of e = as_vector (where_sized (well_sized e.n e.m e.k) (fused_estimate e.n e.k (bank_of e)))

-- the probability of model j, one of those that are there
abbrev pub probability_of : ImmEstimator → ℕ → Answer Float
probability_of e j = where_sized (well_sized e.n e.m e.k && ltb j e.k) (at e.mu j)

-- the record of the models M, and of the used parts of a transition, a measurement matrix and a noise
abbrev pub record_of : ℕ → ℕ → ℕ → List ImmModel → Rows → Rows → Rows → ImmEstimator
record_of n m k M T c r = record {
  n = n;
  m = m;
  k = k;
  models = M;
  transition = flat_of_rows (pad (used k k T));
  mu = pad_row (uniform k);
  c = flat_of_rows (pad (used m n c));
  r = flat_of_rows (pad (used m m r));
}

abbrev pub new_of : ℕ → ℕ → ℕ → List ImmModel → Rows → Rows → Rows → Answer ImmEstimator
new_of n m k M T c r = where_sized (well_sized n m k) (record_of n m k M T c r)
