-- Laws of a bank of models in arrays: the definitions' sums, read off the arrays. Assumes nothing.
use mathlib.Core.Path.{◌≡◌, refl, sym, ap, ap₂, ◌∙◌}
use mathlib.Core.Bool.{cond}
use mathlib.Core.List.{List, []}
use Prim.Native.Nat.{ℕ, ◌≤◌, ◌<◌}
use native.Mathlib.Nat.{le_trans}
use native.Mathlib.Omega.{arith}
use lib.Dec.{leb}
use lib.ListN.{length, get_or}
use lib.Ieee.{Float, nan, lt}
use Rattle.scalar.specs.Number.{◌⊕◌, ◌⊖◌, ◌⊗◌, ◌⊘◌, +0, epsilon}
use Rattle.scalar.proofs.Product.{times-comm}
use Rattle.answer.specs.Table.{table, pad_to}
use Rattle.answer.proofs.Tables.{get_or-table, table_ext, length-table}
use Rattle.algebra.specs.Matrix.{Vector, at, row, cell, mat, dot, sum_of, vec_sub}
use Rattle.algebra.specs.Array.{cut, used}
use Rattle.algebra.proofs.Matrices.{sum_ext, cell-mat, mat_ext}
use Rattle.algebra.proofs.Arrays.{at_cut, cell-used}
use Rattle.sizes.specs.declared.Size.{Size}
use Rattle.sizes.specs.declared.Size.TheVariants.{One, Two, Three, Four}
use Rattle.sizes.specs.Size.{count}
use Rattle.sizes.proofs.Sizes.{bounds}
use Rattle.rows.proofs.Kernels.{dot-sized}
use Rattle.filtering.specs.Filter.{Estimate, estimate}
use Rattle.mixing.specs.Mixing.{Bank, model, uniform, predicted, weights, weighted, spread, mixed_covariance, update_probabilities}
use Rattle.imm_steps.specs.Bank.{share_of}

-- ---- probabilities and weights
module _ (K : ℕ) (t : List (List Float)) (μ : List Float) where
  -- probability i times the transition from i to j
  abbrev pub share : ℕ → ℕ → Float
  share j i = at μ i ⊗ cell t i j

  share-used : (j i : ℕ) → j < K → i < K → at (cut K μ) i ⊗ cell (used K K t) i j ≡ share j i
  share-used j i hj hi = ap₂ (λ (x y : Float). x ⊗ y) (at_cut K μ i hi) (cell-used K K t i j hi hj)

  pub predicted-used : predicted K (used K K t) (cut K μ) ≡ table K (λ j. sum_of K (share j))
  unfolding predicted
  predicted-used =
      table_ext K (λ j. sum_of K (λ i. at (cut K μ) i ⊗ cell (used K K t) i j)) (λ j. sum_of K (share j))
      (λ j h. sum_ext K (λ i. at (cut K μ) i ⊗ cell (used K K t) i j) (share j) (λ i g. share-used j i h g))

  -- the weights in model j, read off the rows of all models
  pub weights-used : (j : ℕ) (c : List Float) (w : List (List Float)) → K ≤ 4 → j < K → at c j ≡ at (predicted K (used K K t) (cut K μ)) j
      → ((i : ℕ) → i < K → cut K (row w i) ≡ table K (λ j. share_of (at μ i) (cell t i j) (at c j))) → cut K (table 4 (λ i. cell w i j)) ≡ weights K (used K K t) (cut K μ) j
  unfolding cut weights
  weights-used j c w most h e s =
      table_ext K (λ i. at (table 4 (λ i. cell w i j)) i) (λ i. cond (lt epsilon (at P j)) (at (cut K μ) i ⊗ cell (used K K t) i j ⊘ at P j) +0)
      (λ i l. get_or-table 4 (λ i. cell w i j) i nan (le_trans l most) ∙ sym (at_cut K (row w i) j h) ∙ ap (λ (v : Vector). at v j) (s i l)
      ∙ get_or-table K (λ j. share_of (at μ i) (cell t i j) (at c j)) j nan h
      ∙ ap (share_of (at μ i) (cell t i j)) e
      ∙ sym (ap (λ (x : Float). cond (lt epsilon (at P j)) (x ⊘ at P j) +0) (share-used j i h l)))
    where
      P : Vector
      P = predicted K (used K K t) (cut K μ)

-- the sum of the products of the used numbers, as the code has it
pub products-used : (k : Size) (v w : List Float) {n : ℕ} {s : Float} → n ≡ count k → s ≡ cond (leb n 4) (dot n v w) +0 → s ≡ sum_of (count k) (λ i. at v i ⊗ at w i)
unfolding dot
products-used k v w {n} e p = dot-sized n p (omega (arith, e, bounds k)) ∙ ap (λ (n : ℕ). sum_of n (λ i. at v i ⊗ at w i)) e

-- the sum of probability × likelihood, and what follows from it
module _ (K : ℕ) (E : List Estimate) (L μ : List Float) where
  pub probabilities-used : {s : Float} → s ≡ sum_of K (λ i. at μ i ⊗ at L i)
      → (update_probabilities K (record { estimates = E; likelihoods = cut K L; probabilities = cut K μ })).probabilities ≡ cond (lt s epsilon) (uniform K) (table K (λ i. at μ i ⊗ at L i ⊘ s))
  unfolding update_probabilities
  probabilities-used {s} e =
      ap₂ (λ (p : Vector) (x : Float). cond (lt x epsilon) (uniform K) (table K (λ i. at p i ⊘ x))) products (ap (λ (p : Vector). sum_of K (at p)) products ∙ total ∙ sym e)
      ∙ ap (cond (lt s epsilon) (uniform K)) (table_ext K (λ i. at (table K f) i ⊘ s) (λ i. f i ⊘ s) (λ i h. ap (λ (x : Float). x ⊘ s) (get_or-table K f i nan h)))
    where
      f : ℕ → Float
      f i = at μ i ⊗ at L i

      products : table K (λ i. at (cut K μ) i ⊗ at (cut K L) i) ≡ table K f
      products = table_ext K (λ i. at (cut K μ) i ⊗ at (cut K L) i) f (λ i h. ap₂ (λ (x y : Float). x ⊗ y) (at_cut K μ i h) (at_cut K L i h))

      total : sum_of K (at (table K f)) ≡ sum_of K f
      total = sum_ext K (at (table K f)) f (λ i h. get_or-table K f i nan h)

-- ---- estimates: row i of x is the state of model i, and p i its covariance
module _ (n K : ℕ) (x : List (List Float)) (p : List (List (List Float))) (L μ w : List Float) where
  abbrev pub bank : Bank
  bank = record { estimates = table K (λ i. estimate (cut n (row x i)) (used n n (get_or p i []))); likelihoods = L; probabilities = μ }

  model_is : (i : ℕ) → i < K → model bank i ≡ estimate (cut n (row x i)) (used n n (get_or p i []))
  model_is i h = get_or-table K (λ i. estimate (cut n (row x i)) (used n n (get_or p i []))) i (estimate [] []) h

  pub weighted-used : weighted n K bank (cut K w) ≡ table n (λ r. sum_of K (λ i. at w i ⊗ cell x i r))
  unfolding weighted
  weighted-used =
      table_ext n (λ r. sum_of K (λ i. at (model bank i).state r ⊗ at (cut K w) i)) (λ r. sum_of K (λ i. at w i ⊗ cell x i r))
      (λ r h. sum_ext K (λ i. at (model bank i).state r ⊗ at (cut K w) i) (λ i. at w i ⊗ cell x i r)
      (λ i l. ap₂ (λ (y z : Float). y ⊗ z) (ap (λ (e : Estimate). at e.state r) (model_is i l) ∙ at_cut n (row x i) r h) (at_cut K w i l)
      ∙ times-comm (cell x i r) (at w i)))

  pub length-weighted : (v : Vector) → length (weighted n K bank v) ≡ n
  unfolding weighted
  length-weighted v = length-table n (λ r. sum_of K (λ i. at (model bank i).state r ⊗ at v i))

  -- model i's number of the covariance and its spread around the mixed state m, times its weight
  abbrev pub spread_at : List Float → ℕ → ℕ → ℕ → Float
  spread_at m r c i = (cell (get_or p i []) r c ⊕ (+0 ⊕ (cell x i r ⊖ at m r) ⊗ (cell x i c ⊖ at m c))) ⊗ at w i

  module _ (m : List Float) where
    deviation_is : (i r : ℕ) → r < n → at (vec_sub n (cut n (row x i)) (cut n m)) r ≡ cell x i r ⊖ at m r
    unfolding vec_sub
    deviation_is i r h =
        get_or-table n (λ r. at (cut n (row x i)) r ⊖ at (cut n m) r) r nan h
        ∙ ap₂ (λ (y z : Float). y ⊖ z) (at_cut n (row x i) r h) (at_cut n m r h)

    spread_is : (i r c : ℕ) → i < K → r < n → c < n → cell (spread n (model bank i) (cut n m)) r c ⊗ at (cut K w) i ≡ spread_at m r c i
    unfolding spread
    spread_is i r c hi hr hc =
        ap (λ (e : Estimate). cell (spread n e (cut n m)) r c ⊗ at (cut K w) i) (model_is i hi)
        ∙ ap (λ (y : Float). y ⊗ at (cut K w) i) (cell-mat n n (λ r c. cell (used n n (get_or p i [])) r c ⊕ (+0 ⊕ at v r ⊗ at v c)) r c hr hc)
        ∙ λ z. (cell-used n n (get_or p i []) r c hr hc z ⊕ (+0 ⊕ deviation_is i r hr z ⊗ deviation_is i c hc z)) ⊗ at_cut K w i hi z
      where
        v : Vector
        v = vec_sub n (cut n (row x i)) (cut n m)

    pub covariance-used : mixed_covariance n K bank (cut K w) (cut n m) ≡ mat n n (λ r c. sum_of K (spread_at m r c))
    unfolding mixed_covariance
    covariance-used =
        mat_ext n n (λ r c. sum_of K (λ i. cell (spread n (model bank i) (cut n m)) r c ⊗ at (cut K w) i)) (λ r c. sum_of K (spread_at m r c))
        (λ r c hr hc. sum_ext K (λ i. cell (spread n (model bank i) (cut n m)) r c ⊗ at (cut K w) i) (spread_at m r c) (λ i hi. spread_is i r c hi hr hc))

    -- row r of all four models, and their deviations there
    pub row-used : (r : ℕ) {v : List Float} → K ≤ 4
        → v ≡ table 4 (λ c. sum_of K (λ i. (cell (table 4 (λ i. row (get_or p i []) r)) i c ⊕ (+0 ⊕ at (table 4 (λ i. cell x i r ⊖ at m r)) i ⊗ (cell x i c ⊖ at m c))) ⊗ at w i))
        → v ≡ table 4 (λ c. sum_of K (spread_at m r c))
    row-used r few e =
        e ∙ table_ext 4 (λ c. sum_of K (term c)) (λ c. sum_of K (spread_at m r c))
        (λ c g. sum_ext K (term c) (spread_at m r c)
        (λ i h. λ z. (cells c i h z ⊕ (+0 ⊕ get_or-table 4 (λ i. cell x i r ⊖ at m r) i nan (le_trans h few) z ⊗ (cell x i c ⊖ at m c))) ⊗ at w i))
      where
        term : ℕ → ℕ → Float
        term c i = (cell (table 4 (λ i. row (get_or p i []) r)) i c ⊕ (+0 ⊕ at (table 4 (λ i. cell x i r ⊖ at m r)) i ⊗ (cell x i c ⊖ at m c))) ⊗ at w i

        cells : (c i : ℕ) → i < K → cell (table 4 (λ i. row (get_or p i []) r)) i c ≡ cell (get_or p i []) r c
        cells c i h = ap (λ (v : List Float). at v c) (get_or-table 4 (λ i. row (get_or p i []) r) i [] (le_trans h few))

-- ---- what a loop over the models leaves: a place for each of four, of which k are used
pub models-out : {A : Type 0} (g : Estimate → A) (f : ℕ → Estimate) (k : Size) {z : A} → z ≡ g (estimate [] [])
    → pad_to 4 z (table (count k) (λ j. g (f j))) ≡ table 4 (λ i. g (get_or (table (count k) f) i (estimate [] [])))
models-out g f k e = ap (λ z. pad_to 4 z (table (count k) (λ j. g (f j)))) e ∙ go k
  where
    go : (k : Size) → pad_to 4 (g (estimate [] [])) (table (count k) (λ j. g (f j))) ≡ table 4 (λ i. g (get_or (table (count k) f) i (estimate [] [])))
    go One = refl
    go Two = refl
    go Three = refl
    go Four = refl
