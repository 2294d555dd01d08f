-- The rows that are read from a record are the bank that it holds, and the record around what a step leaves of them. Assumes nothing.
use mathlib.Core.Path.{◌≡◌, ap, ap₂, ◌∙◌}
use mathlib.Core.List.{List, []}
use Prim.Native.Nat.{ℕ}
use native.Mathlib.Nat.{le_trans}
use lib.ListN.{get_or}
use lib.Ieee.{Float, nan}
use Rattle.answer.specs.Table.{table}
use Rattle.answer.proofs.Tables.{get_or-table, table_ext}
use Rattle.algebra.specs.Matrix.{at, row}
use Rattle.algebra.specs.Array.{cut, used, used_flat, rows_of_flat}
use Rattle.algebra.proofs.Arrays.{used-rows_of_flat}
use Rattle.sizes.specs.declared.Size.{Size}
use Rattle.sizes.specs.Size.{count, front, part}
use Rattle.sizes.proofs.Sizes.{bounds}
use Rattle.steps.proofs.Flats.{read}
use Rattle.filtering.specs.Filter.{Estimate, estimate}
use Rattle.mixing.specs.Mixing.{Bank}
use Rattle.imm_steps.specs.Bank.{bank_rows, rows_of}
use Rattle.imm_steps.proofs.Holders.{Held}
use Rattle.imm.specs.declared.ImmModel.{ImmModel}
use Rattle.imm.specs.declared.ImmEstimator.{ImmEstimator}
use Rattle.imm.specs.Record.{model_at, states_of, covariances_of, likelihoods_of, with_estimates, bank_of, transition_of, keeping, holding}

module _ (e : ImmEstimator) (sn sk : Size) (en : count sn ≡ e.n) (ek : count sk ≡ e.k) where
  abbrev estimate_at : ℕ → ℕ → Estimate
  estimate_at n i = estimate (cut n (model_at e.models i).x_hat) (used_flat n n (model_at e.models i).p)

  estimates-held : {x : List (List Float)} {p : List (List (List Float))} → x ≡ states_of e.models → p ≡ covariances_of e.models
      → (bank_rows sn sk x p [] []).estimates ≡ (bank_of e).estimates
  estimates-held {x} {p} ex ep =
      (λ t. table (count sk) (λ i. estimate (cut N (row (ex t) i)) (used N N (get_or (ep t) i []))))
      ∙ table_ext (count sk) (λ i. estimate (cut N (row (states_of e.models) i)) (used N N (get_or (covariances_of e.models) i []))) (λ i. estimate_at N i)
      (λ i h. ap₂ estimate
      (ap (cut N) (get_or-table 4 (λ i. (model_at e.models i).x_hat) i [] (le_trans h (bounds sk).most)))
      (ap (used N N) (get_or-table 4 (λ i. rows_of_flat (model_at e.models i).p) i [] (le_trans h (bounds sk).most))
      ∙ used-rows_of_flat N N (model_at e.models i).p (bounds sn).most (bounds sn).most))
      ∙ (λ t. table (ek t) (λ i. estimate_at (en t) i))
    where
      N : ℕ
      N = count sn

  pub held : {x : List (List Float)} {p : List (List (List Float))} → x ≡ states_of e.models → p ≡ covariances_of e.models → Held sn sk x p e.n e.k (bank_of e)
  held ex ep = record { states = en; models = ek; estimates = estimates-held ex ep }

module _ (e : ImmEstimator) (sk : Size) (ek : count sk ≡ e.k) where
  pub transition-held : {t : List (List Float)} → t ≡ rows_of_flat e.transition → part sk sk t ≡ transition_of e
  transition-held q =
      read sk sk e.transition q ∙ ap (λ (k : ℕ). used_flat k k e.transition) ek

  pub probabilities_are : front sk e.mu ≡ (bank_of e).probabilities
  probabilities_are = ap (λ (k : ℕ). cut k e.mu) ek

  pub likelihoods_are : {l : List Float} → l ≡ likelihoods_of e.models → front sk l ≡ (bank_of e).likelihoods
  unfolding cut
  likelihoods_are q =
      ap (front sk) q
      ∙ table_ext (count sk) (λ i. at (likelihoods_of e.models) i) f (λ i h. get_or-table 4 f i nan (le_trans h (bounds sk).most))
      ∙ ap (λ (k : ℕ). table k f) ek
    where
      f : ℕ → Float
      f i = (model_at e.models i).likelihood

-- the record around the rows of a bank
pub around : (e : ImmEstimator) (B : Bank) {x : List (List Float)} {p : List (List (List Float))} {μ : List Float} {M : List ImmModel}
    → M ≡ with_estimates e.models x p → (x, (p, μ)) ≡ rows_of B → keeping e M μ ≡ holding e B
around e B {x} {p} {μ} q r = (λ t. keeping e (q t) μ) ∙ (λ t. keeping e (with_estimates e.models (r t).0 (r t).1.0) (r t).1.1)
