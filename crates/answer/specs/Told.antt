-- How what is told is handed over to C: as a number. Definitions only.
use Rattle.std.specs.Prelude.{ℕ, Ok, Err}
use Rattle.answer.specs.declared.Refusal.{Refusal}
use Rattle.answer.specs.declared.Refusal.TheVariants.{WrongSize, InsufficientData, SingularMatrix, NotPositiveDefinite, BufferFull, IndexOutOfRange, BadForm, OutOfRange, NoWholeMetres}
use Rattle.answer.specs.Answer.{Answer}
use Rattle.answer.specs.Outcome.{into, handed}

-- document 01's number of a refusal
abbrev pub number : Refusal → ℕ
number WrongSize = 1
number InsufficientData = 2
number SingularMatrix = 3
number NotPositiveDefinite = 4
number BufferFull = 5
number IndexOutOfRange = 6
number BadForm = 7
number OutOfRange = 8
number NoWholeMetres = 9

-- 0, or the number of the refusal
abbrev pub number_of : {A : Type 0} → Answer A → ℕ
number_of (Err r) = number r
number_of (Ok a) = 0

-- the same beside what a call leaves, as C is told it
abbrev pub numbered : {A X : Type 0} → Answer A × X → ℕ × X
numbered s = (number_of s.0, s.1)

-- the answer stands in a lent place that held o; a refusal is told, and leaves the place as it was
abbrev pub written : {A : Type 0} → A → Answer A → Answer (Unit {0}) × A
written o a = handed (λ w. w) (λ x. x) o (into a)

-- and as C is told it
abbrev pub given : {A : Type 0} → A → Answer A → ℕ × A
given o a = numbered (written o a)
