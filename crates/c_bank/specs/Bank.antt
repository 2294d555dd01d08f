-- A bank of models in one slice: its parts one after another, by rows; and what each call tells and leaves. Definitions only.
use Rattle.std.specs.Prelude.{ℕ, zero, suc, ◌+◌, ◌*◌, List, [], ◌∷◌, ◌++◌, Bool, ◌&&◌, eqb, ltb, length, Float}
use Rattle.answer.specs.Answer.{Answer, where_sized}
use Rattle.answer.specs.Outcome.{into, handed}
use Rattle.answer.specs.Table.{table}
use Rattle.algebra.specs.Matrix.{Matrix, at, cell, sum_of}
use Rattle.sizes.specs.Size.{size_of}
use Rattle.filtering.specs.Filter.{Estimate, estimate}
use Rattle.mixing.specs.Mixing.{Bank, model, uniform, mix_estimates, update_probabilities, fused_estimate}
use Rattle.imm_steps.specs.Bank.{spread_term}
use Rattle.layout.specs.Layout.{vector_at, matrix_at, joined, placed, total, offset, part_at, model_parts, model_length, bank_parts}
use Rattle.steps.specs.Step.{well_sized}
use Rattle.c_bank.specs.declared.places.Places.{Places}

-- ---- sizes and places

-- where part j of model i begins
abbrev pub model_place : ℕ → ℕ → ℕ → ℕ
model_place n i j = i * model_length n + offset (model_parts n) j

-- where the probabilities begin
abbrev pub probabilities_place : ℕ → ℕ → ℕ → ℕ
probabilities_place n m k = offset (bank_parts n m k) 4

-- where the parts stand, with the sizes by their type: those of the first model, then those behind the models
abbrev pub places_of : ℕ → ℕ → ℕ → Places
places_of n m k = record {
  n = size_of n;
  k = size_of k;
  step = model_length n;
  x = model_place n 0 1;
  p = model_place n 0 2;
  likelihood = model_place n 0 4;
  transition = offset (bank_parts n m k) 1;
  c = offset (bank_parts n m k) 2;
  r = offset (bank_parts n m k) 3;
  mu = probabilities_place n m k;
}

-- a slice of l numbers is just a bank
unfoldable pub is_bank : ℕ → ℕ → ℕ → ℕ → Bool
is_bank n m k l = well_sized n m k && eqb l (total (bank_parts n m k))

-- and the j numbers beside it are as many as are asked for
unfoldable pub is_bank_with : ℕ → ℕ → ℕ → ℕ → ℕ → ℕ → Bool
is_bank_with n m k l asked j = is_bank n m k l && eqb j asked

-- and model j is one of its models
unfoldable pub is_model : ℕ → ℕ → ℕ → ℕ → ℕ → Bool
is_model n m k l j = is_bank n m k l && ltb j k

-- slices of these lengths are just the parts of a bank of l numbers, but for its probabilities
unfoldable pub is_parts : ℕ → ℕ → ℕ → ℕ → ℕ → ℕ → ℕ → ℕ → Bool
is_parts n m k l a t c r = is_bank n m k l && ((eqb a (k * model_length n) && eqb t (k * k)) && (eqb c (m * n) && eqb r (m * m)))

-- ---- what the slice b holds
abbrev pub estimate_at : ℕ → List Float → ℕ → Estimate
estimate_at n b i = estimate (vector_at n b (model_place n i 1)) (matrix_at n n b (model_place n i 2))

abbrev pub bank_at : ℕ → ℕ → ℕ → List Float → Bank
bank_at n m k b = record {
  estimates = table k (λ i. estimate_at n b i);
  likelihoods = table k (λ i. at b (model_place n i 4));
  probabilities = vector_at k b (probabilities_place n m k);
}

abbrev pub transition_at : ℕ → ℕ → ℕ → List Float → Matrix
transition_at n m k b = part_at (bank_parts n m k) b 1

-- ---- numbers g i for each of the first k models, from number q on, a step apart
unfoldable pub series : ℕ → ℕ → ℕ → (ℕ → List Float) → List Float → List Float
series zero q step g b = b
series (suc k) q step g b = placed (q + k * step) (g k) (series k q step g b)

-- row r of the covariance of model j, mixed from the rows of K models that stand in b from number q on, a step apart
abbrev pub mixed_row_in : ℕ → ℕ → ℕ → Matrix → Matrix → Matrix → List Float → ℕ → ℕ → ℕ → List Float
mixed_row_in n K step x m w b q r j =
    table n (λ c. sum_of K (λ i. spread_term (at b (q + i * step + c)) (cell x i r) (cell m j r) (cell x i c) (cell m j c) (cell w i j)))

-- all its rows, where the first model's covariance stands from number p on
abbrev pub mixed_rows_in : ℕ → ℕ → ℕ → Matrix → Matrix → Matrix → List Float → ℕ → ℕ → Matrix
mixed_rows_in n K step x m w b p j = table n (λ r. mixed_row_in n K step x m w b (p + r * n) r j)

-- ---- what is placed there: the estimates of the first k models of B, each in its place; then the probabilities too
unfoldable pub with_estimates : ℕ → ℕ → List Float → Bank → List Float
with_estimates n zero b B = b
with_estimates n (suc k) b B = placed (model_place n k 1) ((model B k).state ++ joined (model B k).covariance) (with_estimates n k b B)

abbrev pub with_probabilities : ℕ → ℕ → ℕ → List Float → Bank → List Float
with_probabilities n m k b B = placed (probabilities_place n m k) B.probabilities b

abbrev pub with_bank : ℕ → ℕ → ℕ → List Float → Bank → List Float
with_bank n m k b B = with_probabilities n m k (with_estimates n k b B) B

-- the bank mixed
abbrev pub mixed_in : ℕ → ℕ → ℕ → List Float → Bank
mixed_in n m k b = mix_estimates n k (transition_at n m k b) (bank_at n m k b)

-- ---- the calls: refused where a size or a length does not fit
abbrev pub mix_in : ℕ → ℕ → ℕ → List Float → Answer (Unit {0}) × List Float
mix_in n m k b = handed (λ w. w) (with_bank n m k b) b (into (where_sized (is_bank n m k (length b)) (mixed_in n m k b)))

abbrev pub probabilities_in : ℕ → ℕ → ℕ → List Float → Answer (Unit {0}) × List Float
probabilities_in n m k b = handed (λ w. w) (with_probabilities n m k b) b (into (where_sized (is_bank n m k (length b)) (update_probabilities k (bank_at n m k b))))

-- the fused state, for a slice of j numbers
abbrev pub fused_in : ℕ → ℕ → ℕ → List Float → ℕ → Answer (List Float)
fused_in n m k b j = where_sized (is_bank_with n m k (length b) n j) (fused_estimate n k (bank_at n m k b))

-- the probability of model j
abbrev pub probability_in : ℕ → ℕ → ℕ → List Float → ℕ → Answer Float
probability_in n m k b j = where_sized (is_model n m k (length b) j) (at b (probabilities_place n m k + j))

-- the parts, one after another, and each probability 1 / k, for a slice of l numbers
abbrev pub new_in : ℕ → ℕ → ℕ → ℕ → List Float → List Float → List Float → List Float → Answer (List Float)
new_in n m k l a t c r = where_sized (is_parts n m k l (length a) (length t) (length c) (length r)) (joined (a ∷ t ∷ c ∷ r ∷ uniform k ∷ []))
