-- What smoothing slots in a lent buffer tells and leaves: the call `smooth`, and its pass. Definitions only.
use Rattle.std.specs.Prelude.{◌≡◌, List, map, ℕ, length, Float, Ok}
use Rattle.answer.specs.Answer.{Answer, mapped, if_sized}
use Rattle.answer.specs.Outcome.{into, handed}
use Rattle.algebra.specs.Array.{used}
use Rattle.filtering.specs.Filter.{Estimate}
use Rattle.smoothing.specs.Smoother.{smooth}
use Rattle.layout.specs.Layout.{joined, placed}
use Rattle.duty.specs.Buffer.{pair_numbers, duty_of, output_of, smoothable}

-- done, or the refusal
abbrev pub told_of : {A : Type 0} → Answer A → Answer (Unit {0})
told_of a = mapped (λ r. tt) a

-- that, and the answer in a place that held x; a refusal leaves the place as it was
abbrev pub smooth_left : {A X : Type 0} → (A → X) → X → Answer A → Answer (Unit {0}) × X
smooth_left put x a = handed (λ t. t) put x (into a)

-- what an output holds after the first c slots of b are smoothed with the transition in f: refused with 1 for the sizes, and else as smoothing is
abbrev pub smooth_into : ℕ → ℕ → ℕ → List Float → List (List Float) → List Float → Answer (List Float)
smooth_into n T c b f o = if_sized (smoothable (length b) (length o) n T c) (mapped (output_of n T) (smooth (duty_of n (used n n f) b c)))

abbrev pub smooth_of : ℕ → ℕ → ℕ → List Float → List (List Float) → List Float → Answer (Unit {0}) × List Float
smooth_of n T c b f o = smooth_left (λ l. l) o (smooth_into n T c b f o)

-- the pass: what is told, and where it is answered the pairs in front of what a buffer held
pub record Passed (a : Answer (List Estimate)) (before after : List Float) (t : Answer (Unit {0})) : Type 0 where
  pub told : t ≡ told_of a
  pub pairs : (r : List Estimate) → a ≡ Ok r → after ≡ placed 0 (joined (map pair_numbers r)) before
