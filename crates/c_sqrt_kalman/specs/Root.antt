-- A square-root filter in one slice: its parts one after another, by rows; and what each call tells and leaves. Definitions only.
use Rattle.std.specs.Prelude.{ℕ, ◌*◌, List, [], ◌∷◌, ◌++◌, Bool, length, Float}
use Rattle.answer.specs.Answer.{Answer, where_sized, if_sized, mapped}
use Rattle.answer.specs.Outcome.{Outcome, into, handed}
use Rattle.filtering.specs.Filter.{estimate}
use Rattle.filtering.specs.SquareRoot.{Factored, factored, of_estimate, covariance}
use Rattle.layout.specs.Layout.{vector_at, matrix_at, joined, placed, part_at, root_parts}
use Rattle.c_copies.specs.Filter.{state_place_by, is_filter_by, is_step_by, is_step_with_by, is_parts_by, new_by, state_by, square_by}

-- ---- sizes: any filter's, with one deviation for each measurement

-- where the state begins
abbrev pub state_place : ℕ → ℕ → ℕ → ℕ
state_place n m i = state_place_by (λ m. 1) n m i

-- a slice of k numbers is just a filter
abbrev pub is_filter : ℕ → ℕ → ℕ → ℕ → Bool
is_filter n m i k = is_filter_by (λ m. 1) n m i k

-- and the j numbers beside it are as many as are asked for
abbrev pub is_step : ℕ → ℕ → ℕ → ℕ → ℕ → ℕ → Bool
is_step n m i k asked j = is_step_by (λ m. 1) n m i k asked j

-- and so are those of a second slice
abbrev pub is_step_with : ℕ → ℕ → ℕ → ℕ → ℕ → ℕ → ℕ → ℕ → Bool
is_step_with n m i k asked j more l = is_step_with_by (λ m. 1) n m i k asked j more l

-- slices of these lengths are just the parts of a filter of k numbers
abbrev pub is_parts : ℕ → ℕ → ℕ → ℕ → ℕ → ℕ → ℕ → ℕ → ℕ → ℕ → ℕ → Bool
is_parts n m i k a b h q r x s = is_parts_by (λ m. 1) n m i k a b h q r x s

-- ---- what the slice f holds
abbrev pub factored_at : ℕ → ℕ → ℕ → List Float → Factored
factored_at n m i f = factored (vector_at n f (state_place n m i)) (part_at (root_parts n m i) f 6)

-- the slice with another state and factor; its model stays as it stands
abbrev pub with_factored : ℕ → ℕ → ℕ → List Float → Factored → List Float
with_factored n m i f g = placed (state_place n m i) (g.state ++ joined g.factor) f

-- ---- what a call that changes the filter tells and leaves: refused where a size does not fit, else an outcome
abbrev pub stepped_in : ℕ → ℕ → ℕ → List Float → Outcome Factored (Unit {0}) → Answer (Unit {0}) × List Float
stepped_in n m i f o = handed (λ w. w) (with_factored n m i f) f o

abbrev pub reset_in : ℕ → ℕ → ℕ → List Float → List Float → List Float → Answer (Unit {0}) × List Float
reset_in n m i f x p = stepped_in n m i f (into (if_sized (is_step_with n m i (length f) n (length x) (n * n) (length p)) (of_estimate n (estimate x (matrix_at n n p 0)))))

-- ---- a filter of given parts, for a slice of k numbers: the parts, one after another
abbrev pub numbers_of : List Float → List Float → List Float → List Float → List Float → List Float → List Float → List Float
numbers_of a b h q r x s = joined (a ∷ b ∷ h ∷ q ∷ r ∷ x ∷ s ∷ [])

abbrev pub from_cholesky_in : ℕ → ℕ → ℕ → ℕ → List Float → List Float → List Float → List Float → List Float → List Float → List Float → Answer (List Float)
from_cholesky_in n m i k a b h q r x s = new_by (λ m. 1) n m i k a b h q r x s

-- with the factor of p
abbrev pub new_in : ℕ → ℕ → ℕ → ℕ → List Float → List Float → List Float → List Float → List Float → List Float → List Float → Answer (List Float)
new_in n m i k a b h q r x p =
    if_sized (is_parts n m i k (length a) (length b) (length h) (length q) (length r) (length x) (length p))
    (mapped (λ g. numbers_of a b h q r g.state (joined g.factor)) (of_estimate n (estimate x (matrix_at n n p 0))))

-- ---- the state of f, its factor by rows, and its covariance by rows, for a slice of k numbers
abbrev pub state_in : ℕ → ℕ → ℕ → List Float → ℕ → Answer (List Float)
state_in n m i f k = state_by (λ m. 1) n m i f k

abbrev pub factor_in : ℕ → ℕ → ℕ → List Float → ℕ → Answer (List Float)
factor_in n m i f k = square_by (λ m. 1) n m i f k

abbrev pub covariance_in : ℕ → ℕ → ℕ → List Float → ℕ → Answer (List Float)
covariance_in n m i f k = where_sized (is_step n m i (length f) (n * n) k) (joined (covariance n (factored_at n m i f)))
