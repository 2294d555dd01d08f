-- What a result by value tells: the answer for the caller's place. Definitions only.
use Rattle.std.specs.Prelude.{ℕ, List, [], ◌∷◌, Float}
use Rattle.answer.specs.Answer.{Answer, mapped}
use Rattle.algebra.specs.Array.{used}
use Rattle.layout.specs.Layout.{joined}

-- a matrix of one number, as a slice
abbrev pub single : Float → List Float
single x = x ∷ []

-- the used part, r rows of c numbers
abbrev pub matrix_told : ℕ → ℕ → Answer (List (List Float)) → Answer (List Float)
matrix_told r c a = mapped (λ m. joined (used r c m)) a
