-- An information filter in one slice, laid out as a linear filter is, with Ω x and Ω where that has its state and covariance; and what each call but a step tells and leaves. Definitions only.
use Rattle.std.specs.Prelude.{ℕ, ◌*◌, List, [], ◌∷◌, length, Float}
use Rattle.answer.specs.Answer.{Answer, mapped, if_sized}
use Rattle.answer.specs.Outcome.{Outcome, into, if_fitting, handed}
use Rattle.filtering.specs.Filter.{estimate}
use Rattle.filtering.specs.Information.{Information, of_estimate, covariance, state}
use Rattle.layout.specs.Layout.{matrix_at, joined}
use Rattle.c_copies.specs.Filter.{is_step, is_step_with, is_parts, estimate_at, with_estimate}
use Rattle.c_copies.specs.Filter as Linear

-- ---- what the slice f keeps, and the slice with something else in its place; its model stays as it stands
abbrev pub information_at : ℕ → ℕ → ℕ → List Float → Information
information_at n m i f = let e = estimate_at n m i f in record { matrix = e.covariance; vector = e.state }

abbrev pub with_information : ℕ → ℕ → ℕ → List Float → Information → List Float
with_information n m i f o = with_estimate n m i f (estimate o.vector o.matrix)

-- ---- what a step tells and leaves: refused where a size does not fit, else the filter's own outcome
abbrev pub stepped_in : ℕ → ℕ → ℕ → List Float → Outcome Information (Unit {0}) → Answer (Unit {0}) × List Float
stepped_in n m i f o = handed (λ w. w) (with_information n m i f) f o

-- of the state x and the covariance p, by rows
abbrev pub of_estimate_at : ℕ → List Float → List Float → Answer Information
of_estimate_at n x p = of_estimate n (estimate x (matrix_at n n p 0))

abbrev pub reset_in : ℕ → ℕ → ℕ → List Float → List Float → List Float → Answer (Unit {0}) × List Float
reset_in n m i f x p = stepped_in n m i f (if_fitting (is_step_with n m i (length f) n (length x) (n * n) (length p)) (into (of_estimate_at n x p)))

-- ---- a filter of its parts, for a slice of k numbers: of Ω and Ω x, and of an estimate, whose places these then take
abbrev pub from_information_in : ℕ → ℕ → ℕ → ℕ → List Float → List Float → List Float → List Float → List Float → List Float → List Float → Answer (List Float)
from_information_in n m i k a b h q r w v = Linear.new_in n m i k a b h q r v w

abbrev pub new_in : ℕ → ℕ → ℕ → ℕ → List Float → List Float → List Float → List Float → List Float → List Float → List Float → Answer (List Float)
new_in n m i k a b h q r x p =
    if_sized (is_parts n m i k (length a) (length b) (length h) (length q) (length r) (length x) (length p))
    (mapped (with_information n m i (joined (a ∷ b ∷ h ∷ q ∷ r ∷ x ∷ p ∷ []))) (of_estimate_at n x p))

-- ---- what is read, for a slice of k numbers
abbrev pub state_in : ℕ → ℕ → ℕ → List Float → ℕ → Answer (List Float)
state_in n m i f k = if_sized (is_step n m i (length f) n k) (state n (information_at n m i f))

abbrev pub covariance_in : ℕ → ℕ → ℕ → List Float → ℕ → Answer (List Float)
covariance_in n m i f k = if_sized (is_step n m i (length f) (n * n) k) (mapped joined (covariance n (information_at n m i f)))

abbrev pub vector_in : ℕ → ℕ → ℕ → List Float → ℕ → Answer (List Float)
vector_in n m i f k = Linear.state_in n m i f k

abbrev pub matrix_in : ℕ → ℕ → ℕ → List Float → ℕ → Answer (List Float)
matrix_in n m i f k = Linear.covariance_in n m i f k
