-- What mixing leaves in a slice, read and written where the numbers stand, is the mixed bank. Assumes nothing.
use mathlib.Core.Path.{◌≡◌, sym, ap, ap₂, ◌∙◌}
use mathlib.Core.List.{List, [], ◌++◌}
use Prim.Native.Nat.{ℕ, ◌+◌, ◌*◌, ◌≤◌, ◌<◌}
use native.Mathlib.Nat.{le_trans, mul-le-mul_right, suc-mul}
use native.Mathlib.Omega.{arith}
use lib.ListN.{length}
use lib.Ieee.{Float, nan}
use Rattle.scalar.specs.Number.{◌⊕◌, ◌⊖◌, ◌⊗◌, +0}
use Rattle.answer.specs.Table.{table}
use Rattle.answer.proofs.Tables.{get_or-table, table_ext, length-table}
use Rattle.algebra.specs.Matrix.{Vector, Matrix, at, row, cell, sum_of}
use Rattle.algebra.specs.Array.{cut, pad_row}
use Rattle.algebra.proofs.Matrices.{sum_ext, mat_ext}
use Rattle.algebra.proofs.Arrays.{length_cut}
use Rattle.sizes.specs.Size.{count, front, part}
use Rattle.sizes.proofs.Sizes.{bounds}
use Rattle.rows.specs.Row.{row_times}
use Rattle.filtering.specs.Filter.{Estimate, estimate}
use Rattle.mixing.specs.Mixing.{Bank, model, predicted, weights, weighted, mixed_covariance, mixed_estimate, mix_estimates}
use Rattle.layout.specs.Layout.{joined, placed}
use Rattle.layout.proofs.Rows.{length-joined}
use Rattle.imm_steps.specs.Bank.{spread_term, Shares, States}
use Rattle.imm_steps.proofs.Banks.{bank, weighted-used, spread_at, covariance-used}
use Rattle.imm_steps.proofs.Mixes.{weights_are}
use Rattle.c_bank.specs.declared.places.Places.{Places}
use Rattle.c_bank.specs.Bank.{bank_at, series, mixed_row_in, mixed_rows_in, with_estimates, with_bank, mixed_in}
use Rattle.c_bank.proofs.Series.{series-same, series-after, series-past, with-series}
use Rattle.c_bank.proofs.Banks.{Placed, by_numbers, model-within}
use Rattle.c_bank.proofs.Readings.{rows_read, numbers_read, probabilities-read, transition-read, covariances, covariance-cell, estimates-read}
use Rattle.c_bank.proofs.Steps.{numbers-put}

length-predicted : (K : ℕ) (T : Matrix) (μ : Vector) → length (predicted K T μ) ≡ K
unfolding predicted
length-predicted K T μ = length-table K _

-- ---- for sizes by their type
module _ (P : Places) (m : ℕ) (b : List Float) (G : Placed (count P.n) m (count P.k) (length b) P) (t x w s : Matrix) (mu c : List Float)
    (et : t ≡ rows_read (count P.k) P.transition (count P.k) b)
    (ex : x ≡ rows_read (count P.k) P.x P.step b)
    (eμ : mu ≡ numbers_read (count P.k) P.mu 1 b)
    (ec : c ≡ pad_row (predicted (count P.k) (part P.k P.k t) (front P.k mu)))
    (ew : Shares P.k t mu c w)
    (es : States P.k x w s) where
  abbrev N : ℕ
  N = count P.n

  abbrev K : ℕ
  K = count P.k

  abbrev L : ℕ
  L = P.step

  abbrev T : Matrix
  T = part P.k P.k t

  abbrev likelihoods : Vector
  likelihoods = (bank_at (count P.n) m (count P.k) b).likelihoods

  -- what was read
  abbrev B : Bank
  B = bank (count P.n) (count P.k) x (covariances P m b G) likelihoods (cut (count P.k) mu) []

  abbrev W : ℕ → Vector
  W j = weights (count P.k) (part P.k P.k t) (cut (count P.k) mu) j

  -- the weights in model j, of which K are used
  abbrev share : ℕ → List Float
  share j = table 4 (λ i. cell w i j)

  few : K ≤ 4
  few = (bounds P.k).most

  small : N ≤ 4
  small = (bounds P.n).most

  bank-read : mix_estimates N K T B ≡ mixed_in N m K b
  bank-read = λ i. mix_estimates N K (transition-read P m b G et i) (record { estimates = estimates-read P m b G ex i; likelihoods = likelihoods; probabilities = probabilities-read P m b G eμ i })

  weights-are : (j : ℕ) → j < K → cut K (share j) ≡ W j
  weights-are j h = weights_are P.n P.k t x (covariances P m b G) mu j c w h ec ew

  -- ---- the mixed states and covariances
  state_is : (j : ℕ) → j < K → cut N (row s j) ≡ weighted N K B (W j)
  unfolding cut row_times
  state_is j h =
      ap (cut N) (es j h)
      ∙ table_ext N (λ r. at (table 4 (λ r. sum_of K (λ i. at (share j) i ⊗ cell x i r))) r) (λ r. sum_of K (λ i. at (share j) i ⊗ cell x i r)) (λ r g. get_or-table 4 (λ r. sum_of K (λ i. at (share j) i ⊗ cell x i r)) r nan (le_trans g small))
      ∙ sym (weighted-used N K x (covariances P m b G) likelihoods (cut K mu) (share j))
      ∙ ap (weighted N K B) (weights-are j h)

  covariance_is : (j : ℕ) → j < K → mixed_rows_in N K L x s w b P.p j ≡ mixed_covariance N K B (W j) (weighted N K B (W j))
  covariance_is j h =
      mat_ext N N (λ r c. sum_of K (λ i. spread_term (at b (P.p + r * N + i * L + c)) (cell x i r) (cell s j r) (cell x i c) (cell s j c) (cell w i j)))
      (λ r c. sum_of K (spread_at N K x (covariances P m b G) likelihoods (cut K mu) (share j) (row s j) r c))
      (λ r c hr hc. sum_ext K _ _
      (λ i hi. sym (λ z. (covariance-cell P m b G i r c hi hr hc z ⊕ (+0 ⊕ (cell x i r ⊖ cell s j r) ⊗ (cell x i c ⊖ cell s j c))) ⊗ get_or-table 4 (λ i. cell w i j) i nan (le_trans hi few) z)))
      ∙ sym (covariance-used N K x (covariances P m b G) likelihoods (cut K mu) (share j) (row s j))
      ∙ ap₂ (λ (v y : Vector). mixed_covariance N K B v y) (weights-are j h) (state_is j h)

  -- the numbers of model j
  abbrev numbers : ℕ → List Float
  numbers j = cut (count P.n) (row s j) ++ joined (mixed_rows_in (count P.n) (count P.k) P.step x s w b P.p j)

  model_is : (j : ℕ) → j < K → numbers j ≡ (model (mixed_in N m K b) j).state ++ joined (model (mixed_in N m K b) j).covariance
  unfolding mix_estimates mixed_estimate
  model_is j h =
      ap₂ (λ (v : Vector) (A : Matrix). v ++ joined A) (state_is j h) (covariance_is j h)
      ∙ ap (λ (e : Estimate). e.state ++ joined e.covariance) (sym (get_or-table K (λ j. mixed_estimate N K B (W j)) j (estimate [] []) h))
      ∙ ap (λ (A : Bank). (model A j).state ++ joined (model A j).covariance) bank-read

  -- ---- the slice
  length-rows : (j : ℕ) → length (joined (mixed_rows_in N K L x s w b P.p j)) ≡ N * N
  length-rows j = length-joined N N (λ r. mixed_row_in N K L x s w b (P.p + r * N) r j) (λ r h. length-table N _)

  -- a row and its numbers lie within the model, and the model in the slice
  inside : (r c : ℕ) → r < N → c < N → N + r * N + c < L
  inside r c hr hc = omega (arith, G.step, mul-le-mul_right N hr, suc-mul r N)

  room : (j : ℕ) → j < K → P.x + j * L + (N + N * N) ≤ length b
  room j h = omega (arith, G.x, G.step, ap (λ (l : ℕ). j * l) G.step, model-within N K j h, G.whole.long)

  -- with the mixed states placed, the covariances stand as before
  rows-kept : {b₁ : List Float} → b₁ ≡ series K P.x L (λ j. cut N (row s j)) b → (j : ℕ) → mixed_rows_in N K L x s w b₁ P.p j ≡ mixed_rows_in N K L x s w b P.p j
  rows-kept {b₁} e j =
      mat_ext N N (λ r c. sum_of K (λ i. spread_term (at b₁ (P.p + r * N + i * L + c)) (cell x i r) (cell s j r) (cell x i c) (cell s j c) (cell w i j)))
      (λ r c. sum_of K (λ i. spread_term (at b (P.p + r * N + i * L + c)) (cell x i r) (cell s j r) (cell x i c) (cell s j c) (cell w i j)))
      (λ r c hr hc. sum_ext K _ _ (λ i hi. ap (λ (y : Float). spread_term y (cell x i r) (cell s j r) (cell x i c) (cell s j c) (cell w i j)) (kept i r c hr hc)))
    where
      kept : (i r c : ℕ) → r < N → c < N → at b₁ (P.p + r * N + i * L + c) ≡ at b (P.p + r * N + i * L + c)
      kept i r c hr hc =
          let z : P.p + r * N + i * L + c ≡ P.x + (N + r * N + c) + i * L = omega (arith, G.x, G.p) in
          ap₂ (λ (l : List Float) (z : ℕ). at l z) e z
          ∙ series-past K P.x L (N + r * N + c) i (λ j. cut N (row s j)) b (λ j h. omega (arith, length_cut N (row s j))) (inside r c hr hc)
          (λ j h. omega (arith, length_cut N (row s j), room j h))
          ∙ ap (at b) (sym z)

  mixed_is : {b₁ b₂ b₃ : List Float} → b₁ ≡ series K P.x L (λ j. front P.n (row s j)) b → b₂ ≡ series K P.p L (λ j. joined (mixed_rows_in N K L x s w b₁ P.p j)) b₁
      → b₃ ≡ placed P.mu (front P.k c) b₂ → b₃ ≡ with_bank N m K b (mixed_in N m K b)
  unfolding mix_estimates
  mixed_is {b₁} {b₂} e₁ e₂ e₃ =
      numbers-put K P.mu (predicted K T (front P.k mu)) b₂ (length-predicted K T (front P.k mu)) ec e₃
      ∙ λ i. placed (G.mu i) (bank-read i).probabilities (placed-estimates i)
    where
      after : P.p ≡ P.x + N
      after = omega (arith, G.x, G.p)

      both : series K P.p L (λ j. joined (mixed_rows_in N K L x s w b P.p j)) (series K P.x L (λ j. cut N (row s j)) b) ≡ series K P.x L numbers b
      both =
          series-after K P.x P.p L N (λ j. cut N (row s j)) (λ j. joined (mixed_rows_in N K L x s w b P.p j)) b (λ j h. length_cut N (row s j)) after
          (λ j h. omega (arith, length-rows j, G.step)) (λ j h. omega (arith, length-rows j, room j h))

      placed-estimates : b₂ ≡ with_estimates N K b (mixed_in N m K b)
      placed-estimates =
          e₂
          ∙ series-same K P.p L (λ j. joined (mixed_rows_in N K L x s w b₁ P.p j)) (λ j. joined (mixed_rows_in N K L x s w b P.p j)) b₁ (λ j h. ap joined (rows-kept e₁ j))
          ∙ ap (series K P.p L (λ j. joined (mixed_rows_in N K L x s w b P.p j))) e₁
          ∙ both
          ∙ series-same K P.x L numbers (λ j. (model (mixed_in N m K b) j).state ++ joined (model (mixed_in N m K b) j).covariance) b model_is
          ∙ (λ i. series K (G.x i) (G.step i) (λ j. (model (mixed_in N m K b) j).state ++ joined (model (mixed_in N m K b) j).covariance) b)
          ∙ sym (with-series N K b (mixed_in N m K b))

-- ---- and for the numbers that they were made of
abbrev Mixed : Places → ℕ → List Float → ℕ → ℕ → Type 0
Mixed P m b n k = Placed n m k (length b) P → (t x w s : Matrix) (mu c b₁ b₂ b₃ : List Float) → t ≡ rows_read (count P.k) P.transition k b → x ≡ rows_read (count P.k) P.x P.step b
    → mu ≡ numbers_read (count P.k) P.mu 1 b → c ≡ pad_row (predicted (count P.k) (part P.k P.k t) (front P.k mu)) → Shares P.k t mu c w → States P.k x w s
    → b₁ ≡ series (count P.k) P.x P.step (λ j. front P.n (row s j)) b
    → b₂ ≡ series (count P.k) P.p P.step (λ j. joined (mixed_rows_in (count P.n) (count P.k) P.step x s w b₁ P.p j)) b₁
    → b₃ ≡ placed P.mu (front P.k c) b₂ → b₃ ≡ with_bank n m k b (mixed_in n m k b)

own : (P : Places) (m : ℕ) (b : List Float) → Mixed P m b (count P.n) (count P.k)
own P m b G t x w s mu c b₁ b₂ b₃ et ex eμ ec ew es e₁ e₂ e₃ = mixed_is P m b G t x w s mu c et ex eμ ec ew es e₁ e₂ e₃

pub mixes : (P : Places) (m : ℕ) (b : List Float) {n k : ℕ} → Placed n m k (length b) P → Mixed P m b n k
mixes P m b g = by_numbers (Mixed P m b) g (own P m b)
