-- A bank that is held elsewhere, as a record or in a slice: a step on the rows read from it is the step on what it holds. Assumes nothing.
use mathlib.Core.Path.{◌≡◌, refl, sym, ◌∙◌}
use mathlib.Core.List.{List, []}
use Prim.Native.Nat.{ℕ}
use lib.Ieee.{Float}
use Rattle.algebra.specs.Matrix.{Vector, Matrix}
use Rattle.sizes.specs.declared.Size.{Size}
use Rattle.sizes.specs.Size.{count, front, part}
use Rattle.filtering.specs.Filter.{Estimate}
use Rattle.mixing.specs.Mixing.{Bank, weighted, mixed_covariance, mixed_estimate, mix_estimates, update_probabilities, fused_estimate}
use Rattle.imm_steps.specs.Bank.{bank_rows, rows_of}
use Rattle.imm_steps.proofs.Banks.{weighted-used}

-- the rows x and p, for the sizes sn and sk, are the estimates of the bank B of K models of n states
pub record Held (sn sk : Size) (x : List (List Float)) (p : List (List (List Float))) (n K : ℕ) (B : Bank) : Type 0 where
  pub states : count sn ≡ n
  pub models : count sk ≡ K
  pub estimates : (bank_rows sn sk x p [] []).estimates ≡ B.estimates

-- mixing reads no likelihood
aside : (n K : ℕ) (T : Matrix) (E : List Estimate) (L M μ : Vector)
    → rows_of (mix_estimates n K T (record { estimates = E; likelihoods = L; probabilities = μ })) ≡ rows_of (mix_estimates n K T (record { estimates = E; likelihoods = M; probabilities = μ }))
unfolding mix_estimates mixed_estimate mixed_covariance weighted
aside n K T E L M μ = refl

module _ {sn sk : Size} {x : List (List Float)} {p : List (List (List Float))} {n K : ℕ} {B : Bank} (h : Held sn sk x p n K B) where
  pub mixed-held : (t : List (List Float)) (μ : List Float) {T : Matrix} → part sk sk t ≡ T → front sk μ ≡ B.probabilities
      → rows_of (mix_estimates (count sn) (count sk) (part sk sk t) (bank_rows sn sk x p [] μ)) ≡ rows_of (mix_estimates n K T B)
  mixed-held t μ eT eμ =
      aside (count sn) (count sk) (part sk sk t) (bank_rows sn sk x p [] []).estimates (front sk []) B.likelihoods (front sk μ)
      ∙ λ i. rows_of (mix_estimates (h.states i) (h.models i) (eT i) (record { estimates = h.estimates i; likelihoods = B.likelihoods; probabilities = eμ i }))

  pub fused-held : (μ : List Float) → front sk μ ≡ B.probabilities
      → weighted (count sn) (count sk) (bank_rows sn sk x [] [] []) (front sk μ) ≡ fused_estimate n K B
  unfolding fused_estimate
  fused-held μ eμ =
      weighted-used (count sn) (count sk) x [] (front sk []) (front sk []) μ
      ∙ sym (weighted-used (count sn) (count sk) x p B.likelihoods B.probabilities μ)
      ∙ λ i. weighted (h.states i) (h.models i) (record { estimates = h.estimates i; likelihoods = B.likelihoods; probabilities = B.probabilities }) (eμ i)

-- the probabilities read no estimate
pub probabilities-held : (sk : Size) {K : ℕ} (B : Bank) (l μ : List Float) → count sk ≡ K → front sk l ≡ B.likelihoods → front sk μ ≡ B.probabilities
    → (update_probabilities (count sk) (bank_rows sk sk [] [] l μ)).probabilities ≡ (update_probabilities K B).probabilities
unfolding update_probabilities
probabilities-held sk B l μ eK eL eμ = λ i. (update_probabilities (eK i) (record { estimates = B.estimates; likelihoods = eL i; probabilities = eμ i })).probabilities
