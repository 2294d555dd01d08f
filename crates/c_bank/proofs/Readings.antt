-- The numbers that are read from a slice are those of the bank in it, for sizes by their type. Assumes nothing.
use mathlib.Core.Path.{◌≡◌, ap, ap₂, ◌∙◌}
use mathlib.Core.List.{List, []}
use Prim.Native.Nat.{ℕ, ◌+◌, ◌*◌, ◌<◌}
use native.Mathlib.Nat.{le_trans}
use native.Mathlib.Omega.{arith}
use lib.ListN.{length, get_or, replicate}
use lib.Ieee.{Float}
use Rattle.scalar.specs.Number.{+0}
use Rattle.answer.specs.Table.{table, pad_to}
use Rattle.answer.proofs.Tables.{get_or-table, table_ext, length-table}
use Rattle.algebra.specs.Matrix.{Matrix, at, row, cell, mat}
use Rattle.algebra.specs.Array.{cut, used, pad_row}
use Rattle.algebra.proofs.Matrices.{cell-mat, mat_ext}
use Rattle.algebra.proofs.Arrays.{cut-pad_row}
use Rattle.sizes.specs.Size.{count, part}
use Rattle.sizes.proofs.Sizes.{bounds}
use Rattle.filtering.specs.Filter.{estimate}
use Rattle.layout.specs.Layout.{vector_at, model_length}
use Rattle.imm_steps.specs.Bank.{bank_rows}
use Rattle.c_bank.specs.declared.places.Places.{Places}
use Rattle.c_bank.specs.Bank.{model_place, estimate_at, bank_at, transition_at}
use Rattle.c_bank.proofs.Spaced.{spaced-cell}
use Rattle.c_bank.proofs.Banks.{Placed}

-- rows or numbers read of each of c models, from number q on
abbrev pub rows_read : ℕ → ℕ → ℕ → List Float → List (List Float)
rows_read c q step b = pad_to 4 (replicate 4 +0) (table c (λ i. vector_at 4 b (q + i * step)))

abbrev pub numbers_read : ℕ → ℕ → ℕ → List Float → List Float
numbers_read c q step b = pad_row (table c (λ i. at b (q + i * step)))

numbers-are : (c q step : ℕ) (b : List Float) (g : ℕ → ℕ) {v : List Float} → v ≡ numbers_read c q step b → ((i : ℕ) → q + i * step ≡ g i) → cut c v ≡ table c (λ i. at b (g i))
numbers-are c q step b g e p =
    ap (cut c) e
    ∙ cut-pad_row c (table c (λ i. at b (q + i * step))) (length-table c (λ i. at b (q + i * step)))
    ∙ table_ext c (λ i. at b (q + i * step)) (λ i. at b (g i)) (λ i h. ap (at b) (p i))

module _ (P : Places) (m : ℕ) (b : List Float) (G : Placed (count P.n) m (count P.k) (length b) P) where
  abbrev N : ℕ
  N = count P.n

  abbrev K : ℕ
  K = count P.k

  -- i times the length of a model
  models : (i : ℕ) → i * P.step ≡ i * model_length N
  models i = ap (λ (l : ℕ). i * l) G.step

  pub probabilities-read : {μ : List Float} → μ ≡ numbers_read (count P.k) P.mu 1 b → cut (count P.k) μ ≡ (bank_at (count P.n) m (count P.k) b).probabilities
  probabilities-read e = numbers-are K P.mu 1 b _ e (λ i. omega (arith, G.mu))

  pub likelihoods-read : {l : List Float} → l ≡ numbers_read (count P.k) P.likelihood P.step b → cut (count P.k) l ≡ (bank_at (count P.n) m (count P.k) b).likelihoods
  likelihoods-read e = numbers-are K P.likelihood P.step b (λ i. model_place N i 4) e (λ i. omega (arith, G.likelihood, models i))

  pub transition-read : {t : Matrix} → t ≡ rows_read (count P.k) P.transition (count P.k) b → part P.k P.k t ≡ transition_at (count P.n) m (count P.k) b
  unfolding used cut
  transition-read {t} e =
      mat_ext K K (λ i j. cell t i j) (λ i j. at b (K * model_length N + 0 + i * K + j))
      (λ i j hi hj. spaced-cell b P.transition K K e i j hi (le_trans hj (bounds P.k).most) ∙ ap (at b) (omega (arith, G.transition)))

  -- ---- the estimates: the rows x of the states, and the covariances where they stand
  abbrev pub covariances : List Matrix
  covariances = table (count P.k) (λ i. mat (count P.n) (count P.n) (λ r c. at b (P.p + r * count P.n + i * P.step + c)))

  pub covariance-cell : (i r c : ℕ) → i < count P.k → r < count P.n → c < count P.n → cell (get_or covariances i []) r c ≡ at b (P.p + r * count P.n + i * P.step + c)
  covariance-cell i r c hi hr hc =
      ap (λ (A : Matrix). cell A r c) (get_or-table K (λ i. mat N N (λ r c. at b (P.p + r * N + i * P.step + c))) i [] hi)
      ∙ cell-mat N N (λ r c. at b (P.p + r * N + i * P.step + c)) r c hr hc

  pub estimates-read : {x : Matrix} → x ≡ rows_read (count P.k) P.x P.step b → (bank_rows P.n P.k x covariances [] []).estimates ≡ (bank_at (count P.n) m (count P.k) b).estimates
  unfolding used cut
  estimates-read {x} e =
      table_ext K (λ i. estimate (cut N (row x i)) (used N N (get_or covariances i []))) (estimate_at N b)
      (λ i h. ap₂ estimate
      (table_ext N (λ j. cell x i j) (λ j. at b (model_place N i 1 + j)) (λ j g. spaced-cell b P.x P.step K e i j h (le_trans g (bounds P.n).most) ∙ ap (at b) (omega (arith, G.x, models i))))
      (mat_ext N N (λ r c. cell (get_or covariances i []) r c) (λ r c. at b (model_place N i 2 + r * N + c))
      (λ r c hr hc. covariance-cell i r c h hr hc ∙ ap (at b) (omega (arith, G.p, models i)))))
