-- A bank of models in arrays: row i of x is the state of model i, and p has four rows for the covariance of each. Definitions only.
use Rattle.std.specs.Prelude.{ℕ, ◌<◌, ◌≡◌, List, [], get_or, cond, Float}
use Rattle.std.specs.Float.Ieee.{lt}
use Rattle.scalar.specs.Number.{◌⊕◌, ◌⊖◌, ◌⊗◌, ◌⊘◌, +0, epsilon}
use Rattle.answer.specs.Table.{table}
use Rattle.algebra.specs.Matrix.{at, row, cell}
use Rattle.algebra.specs.Array.{pad_row, pad}
use Rattle.sizes.specs.declared.Size.{Size}
use Rattle.sizes.specs.Size.{count, front, part}
use Rattle.rows.specs.Row.{row_times}
use Rattle.filtering.specs.Filter.{estimate}
use Rattle.mixing.specs.Mixing.{Bank, model, mix_estimates}

abbrev pub Rows : Type 0
Rows = List (List Float)

-- the bank of k models of n states
abbrev pub bank_rows : Size → Size → Rows → List Rows → List Float → List Float → Bank
bank_rows n k x p L μ = record {
  estimates = table (count k) (λ i. estimate (front n (row x i)) (part n n (get_or p i [])));
  likelihoods = front k L;
  probabilities = front k μ;
}

-- the states, the covariances and the probabilities of a bank in such arrays, +0 outside
abbrev pub rows_of : Bank → Rows × (List Rows × List Float)
rows_of B = (table 4 (λ i. pad_row (model B i).state), (table 4 (λ i. pad (model B i).covariance), pad_row B.probabilities))

-- what mixing by the transition t leaves in them
abbrev pub mixed_rows : Size → Size → Rows → Rows → List Rows → List Float → Rows × (List Rows × List Float)
mixed_rows n k t x p μ = rows_of (mix_estimates (count n) (count k) (part k k t) (bank_rows n k x p [] μ))

-- ---- by the numbers of each model: row i of w has the weights of model i in every model

-- the weight in a model of the predicted probability c of one of the probability m, which goes over with t
abbrev pub share_of : Float → Float → Float → Float
share_of m t c = cond (lt epsilon c) (m ⊗ t ⊘ c) +0

-- a number s of a covariance and the spread between the numbers x and y of the states, less those of the mixed state, times w
abbrev pub spread_term : Float → Float → Float → Float → Float → Float → Float
spread_term s x u y v w = (s ⊕ (+0 ⊕ (x ⊖ u) ⊗ (y ⊖ v))) ⊗ w

-- row i of w has the weights of model i, for the transition t, the probabilities μ and the predicted ones c
abbrev pub Shares : Size → Rows → List Float → List Float → Rows → Type 0
Shares k t μ c w = (i : ℕ) → i < count k → front k (row w i) ≡ table (count k) (λ j. share_of (at μ i) (cell t i j) (at c j))

-- row j of m is the state of model j, mixed from the states x
abbrev pub States : Size → Rows → Rows → Rows → Type 0
States k x w m = (j : ℕ) → j < count k → row m j ≡ row_times (count k) (table 4 (λ i. cell w i j)) x
