-- The worked cases of mixing, and numbers that the running Rust gave at two states and two models. Definitions only.
use Rattle.std.specs.Prelude.{◌≡◌, true, false, [], ◌∷◌, pos, negsuc, Float}
use Rattle.std.specs.Float.{nan, inf, fin}
use Rattle.algebra.specs.Matrix.{Vector, one_by_one, two_by_two}
use Rattle.algebra.specs.Values.{−0, n0, n1, n2, n3, n4, ½, ¼, ¾}
use Rattle.filtering.specs.Filter.{Estimate, estimate}
use Rattle.mixing.specs.Mixing.{Bank, uniform, mix_estimates, update_probabilities, fused_estimate}

abbrev bank : Estimate → Estimate → Vector → Vector → Bank
bank e f L μ = record { estimates = e ∷ f ∷ []; likelihoods = L; probabilities = μ }

-- one state
abbrev pair : Float → Float → Estimate
pair x p = estimate (x ∷ []) (one_by_one p)

-- one model of one state
abbrev single : Estimate → Float → Float → Bank
single e L μ = record { estimates = e ∷ []; likelihoods = L ∷ []; probabilities = μ ∷ [] }

-- 1e200, whose square overflows; EPSILON, and the number above it
abbrev huge : Float
huge = fin false 2941796710330669 (pos 613)

abbrev ε : Float
ε = fin false 1 (negsuc 51)

abbrev ε⁺ : Float
ε⁺ = fin false 4503599627370497 (negsuc 103)

pub record Cases : Type 0 where
  -- mixing: the first model is never entered, and its weights are zero
  pub mixing : mix_estimates 1 2 (two_by_two n0 n1 n0 n1) (bank (pair n2 n1) (pair n4 n1) (n1 ∷ n1 ∷ []) (½ ∷ ½ ∷ []))
      ≡ bank (pair n0 n0) (pair n3 n2) (n1 ∷ n1 ∷ []) (n0 ∷ n1 ∷ [])
  pub mixing_degenerate : update_probabilities 2 (bank (pair n2 n1) (pair n4 n1) (n0 ∷ n0 ∷ []) (n1 ∷ n0 ∷ []))
      ≡ bank (pair n2 n1) (pair n4 n1) (n0 ∷ n0 ∷ []) (½ ∷ ½ ∷ [])
  -- a predicted probability of EPSILON, or NaN, is not above EPSILON; the next number is
  pub mixing_at_limit : mix_estimates 1 1 (one_by_one ε) (single (pair n2 n1) n1 n1) ≡ single (pair n0 n0) n1 ε
  pub mixing-above-limit : mix_estimates 1 1 (one_by_one ε⁺) (single (pair n2 n1) n1 n1) ≡ single (pair n2 n1) n1 ε⁺
  pub mixing_nan : mix_estimates 1 1 (one_by_one nan) (single (pair n2 n1) n1 n1) ≡ single (pair n0 n0) n1 nan
  -- a model that is never entered: its state mixes to zero, but the spread of 1e200 is infinite, and infinity × 0 is NaN
  pub mixing_overflow : mix_estimates 1 1 (one_by_one n0) (single (pair huge n1) n1 n1) ≡ single (pair n0 nan) n1 n0
  -- a sum of EPSILON, or NaN, is not below EPSILON
  pub sum_at_limit : update_probabilities 2 (bank (pair n2 n1) (pair n4 n1) (ε ∷ n0 ∷ []) (n1 ∷ n0 ∷ []))
      ≡ bank (pair n2 n1) (pair n4 n1) (ε ∷ n0 ∷ []) (n1 ∷ n0 ∷ [])
  pub sum_nan : update_probabilities 2 (bank (pair n2 n1) (pair n4 n1) (nan ∷ n0 ∷ []) (n1 ∷ n0 ∷ []))
      ≡ bank (pair n2 n1) (pair n4 n1) (nan ∷ n0 ∷ []) (nan ∷ nan ∷ [])
  -- one division
  pub third : uniform 3 ≡ fin false 6004799503160661 (negsuc 53) ∷ fin false 6004799503160661 (negsuc 53) ∷ fin false 6004799503160661 (negsuc 53) ∷ []
  -- one model of weight 1 keeps its state, but for −0: a sum from +0 has none
  pub one-model : fused_estimate 3 1 (single (estimate (n3 ∷ −0 ∷ inf true ∷ []) []) n1 n1) ≡ n3 ∷ n0 ∷ inf true ∷ []
  pub mixing-fused : fused_estimate 1 2 (bank (pair n2 n1) (pair n4 n1) (n1 ∷ n1 ∷ []) (½ ∷ ½ ∷ [])) ≡ n3 ∷ []

-- ---- the Rust's numbers
abbrev models : Bank
models = bank (estimate (n1 ∷ n2 ∷ []) (two_by_two n2 ½ ½ n1)) (estimate (fin true 1 (pos 0) ∷ ½ ∷ []) (two_by_two n1 ¼ ¼ (fin false 3 (pos 0)))) (¼ ∷ ¾ ∷ []) (fin false 5 (negsuc 2) ∷ fin false 3 (negsuc 2) ∷ [])

abbrev mixed : Bank
mixed = bank
    (estimate (fin false 3684763331484951 (negsuc 51) ∷ fin false 8393072032826833 (negsuc 51) ∷ [])
    (two_by_two (fin false 1260821796505583 (negsuc 48)) (fin false 3266040225634389 (negsuc 51)) (fin false 3266040225634389 (negsuc 51)) (fin false 3079941067478583 (negsuc 50))))
    (estimate (fin true 6392205922719413 (negsuc 53) ∷ fin false 2215480461851615 (negsuc 50) ∷ [])
    (two_by_two (fin false 1236615350335473 (negsuc 48)) (fin false 8883010503309859 (negsuc 52)) (fin false 8883010503309859 (negsuc 52)) (fin false 6409779802638913 (negsuc 50))))
    (¼ ∷ ¾ ∷ []) (fin false 33 (negsuc 5) ∷ fin false 31 (negsuc 5) ∷ [])

abbrev weighed : Bank
weighed = update_probabilities 2 mixed

pub record Rust : Type 0 where
  pub mixing : mix_estimates 2 2 (two_by_two ¾ ¼ (fin false 1 (negsuc 2)) (fin false 7 (negsuc 2))) models ≡ mixed
  pub probabilities : weighed.probabilities ≡ fin false 4718056752483377 (negsuc 53) ∷ fin false 831021359812413 (negsuc 49) ∷ []
  pub fused : fused_estimate 2 2 weighed ≡ fin true 1715657000903047 (negsuc 54) ∷ fin false 1367164172594615 (negsuc 49) ∷ []
