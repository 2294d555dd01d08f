-- What one model of weight 1 keeps in mixing, for every f64. Definitions only.
use Rattle.std.specs.Prelude.{ℕ, zero, suc, ◌<◌, ◌≡◌, true, false, [], ◌∷◌, T, Float}
use Rattle.std.specs.Float.{nan, inf, fin, binary64}
use Rattle.std.specs.Float.Ieee.{fits}
use Rattle.scalar.specs.Number.{+0, one}
use Rattle.answer.specs.Table.{table}
use Rattle.algebra.specs.Matrix.{Vector, Matrix, at, one_by_one}
use Rattle.mixing.specs.Mixing.{Bank, model, weights, mix_estimates, fused_estimate}

-- the sum from +0 of x alone: −0 becomes +0; every other number stays, an infinity and NaN too
unfoldable pub alone : Float → Float
alone nan = nan
alone (inf s) = inf s
alone (fin false m e) = fin false m e
alone (fin true zero e) = +0
alone (fin true (suc m) e) = fin true (suc m) e

-- the first n numbers of v are f64
abbrev pub Numbers : ℕ → Vector → Type 0
Numbers n v = (r : ℕ) → r < n → T (fits binary64 (at v r))

-- a state of n numbers, each as the sum of it alone
abbrev pub kept : ℕ → Vector → Vector
kept n v = table n (λ r. alone (at v r))

pub record Laws : Type 0 where
  pub mixed : (n : ℕ) (M : Matrix) (B : Bank) → weights 1 M B.probabilities 0 ≡ one ∷ [] → Numbers n (model B 0).state
      → (model (mix_estimates n 1 M B) 0).state ≡ kept n (model B 0).state
  pub fused : (n : ℕ) (B : Bank) → B.probabilities ≡ one ∷ [] → Numbers n (model B 0).state → fused_estimate n 1 B ≡ kept n (model B 0).state
  -- a model that is certain and stays has the weight 1
  pub certain : weights 1 (one_by_one one) (one ∷ []) 0 ≡ one ∷ []
