-- A turn of the loop over the models makes a mixed estimate; all turns make the mixed bank. Assumes nothing.
use mathlib.Core.Path.{◌≡◌, refl, sym, ap, ap₂, ◌∙◌}
use mathlib.Core.List.{List, []}
use Prim.Native.Nat.{ℕ, ◌≤◌, ◌<◌}
use lib.ListN.{length, replicate}
use lib.Ieee.{Float, nan}
use Rattle.scalar.specs.Number.{◌⊗◌, +0}
use Rattle.answer.specs.Table.{table}
use Rattle.answer.proofs.Tables.{get_or-pad_to, length-table, Filling, filling-all}
use Rattle.algebra.specs.Matrix.{Vector, Matrix, at, cell, sum_of}
use Rattle.algebra.specs.Array.{cut, pad_row, pad}
use Rattle.algebra.proofs.Arrays.{cut-pad_row}
use Rattle.sizes.specs.declared.Size.{Size}
use Rattle.sizes.specs.Size.{count, front, part}
use Rattle.sizes.proofs.Sizes.{bounds}
use Rattle.filtering.specs.Filter.{Estimate}
use Rattle.mixing.specs.Mixing.{Bank, predicted, weights, weighted, mixed_covariance, mixed_estimate, mix_estimates}
use Rattle.imm_steps.specs.Bank.{bank_rows, rows_of, Shares}
use Rattle.imm_steps.proofs.Banks.{weights-used, weighted-used, length-weighted, models-out}

length-predicted : (K : ℕ) (T : Matrix) (μ : Vector) → length (predicted K T μ) ≡ K
unfolding predicted
length-predicted K T μ = length-table K (λ j. sum_of K (λ i. at μ i ⊗ cell T i j))

module _ (n k : Size) (t : List (List Float)) (x : List (List Float)) (p : List (List (List Float))) (μ : List Float) where
  abbrev N : ℕ
  N = count n

  abbrev K : ℕ
  K = count k

  abbrev B : Bank
  B = bank_rows n k x p [] μ

  -- the weights in model j, and its mixed estimate
  abbrev W : ℕ → Vector
  W j = weights K (part k k t) (front k μ) j

  abbrev pub mixed : ℕ → Estimate
  mixed j = mixed_estimate N K B (W j)

  -- what a turn has of the weights w of all models: c holds the predicted probabilities
  pub weights_are : (j : ℕ) (c : List Float) (w : List (List Float)) → j < K → c ≡ pad_row (predicted K (part k k t) (front k μ)) → Shares k t μ c w
      → cut K (table 4 (λ i. cell w i j)) ≡ W j
  weights_are j c w h e s =
      weights-used K t μ j c w (bounds k).most h
      (ap (λ (v : List Float). at v j) e ∙ get_or-pad_to 4 +0 (predicted K (part k k t) (front k μ)) j nan (rw (length-predicted K (part k k t) (front k μ)) h)) s

  pub state-turn : (j : ℕ) (w : List Float) {m : List Float} → cut K w ≡ W j → m ≡ pad_row (weighted N K (bank_rows n k x [] [] []) (cut K w)) → m ≡ pad_row (mixed j).state
  unfolding mixed_estimate
  state-turn j w q e =
      e
      ∙ ap pad_row (weighted-used N K x [] (cut K []) (cut K []) w ∙ sym (weighted-used N K x p (cut K []) (cut K μ) w) ∙ ap (weighted N K B) q)

  pub covariance-turn : (j : ℕ) (w : List Float) {m : List Float} {v : List (List Float)} → cut K w ≡ W j → m ≡ pad_row (mixed j).state
      → v ≡ pad (mixed_covariance N K (bank_rows n k x p [] []) (cut K w) (cut N m)) → v ≡ pad (mixed j).covariance
  unfolding mixed_estimate mixed_covariance
  covariance-turn j w q s e =
      e
      ∙ ap₂ (λ (u y : Vector). pad (mixed_covariance N K B u y)) q
      (ap (cut N) s ∙ cut-pad_row N (weighted N K B (W j)) (length-weighted N K x p (cut K []) (cut K μ) μ (W j)))

  -- after all turns
  pub all-turns : {i : ℕ} {xs : List (List Float)} {ps : List (List (List Float))} {c : List Float}
      → Filling 4 (replicate 4 +0) (λ j. pad_row (mixed j).state) K i xs → Filling 4 (replicate 4 (replicate 4 +0)) (λ j. pad (mixed j).covariance) K i ps → K ≤ i
      → c ≡ pad_row (predicted K (part k k t) (front k μ)) → (xs, (ps, c)) ≡ rows_of (mix_estimates N K (part k k t) B)
  unfolding mix_estimates pad
  all-turns fx fp h e =
      let ex = filling-all fx h ∙ models-out (λ e. pad_row e.state) mixed k refl in
      let ep = filling-all fp h ∙ models-out (λ e. pad e.covariance) mixed k refl in
      λ i. (ex i, (ep i, e i))
