-- The information filter of one road, by its numbers: what a pair holds, and how an outcome is handed over. Definitions only.
use Rattle.std.specs.Prelude.{[], ◌∷◌, Float}
use Rattle.answer.specs.Answer.{Answer}
use Rattle.answer.specs.Outcome.{Outcome, handed}
use Rattle.algebra.specs.Matrix.{Vector}
use Rattle.matrix.specs.Result.{as_one}
use Rattle.filtering.specs.Information.{Information}
use Rattle.road.specs.declared.Pair.{Pair}
use Rattle.road.specs.Road.{matrix_of}

-- Ω, and Ω x
abbrev pub information_of : Pair → Information
information_of o = record { matrix = matrix_of o.p; vector = o.x0 ∷ o.x1 ∷ [] }

-- what an update tells, the one innovation as a number, and leaves of o
abbrev pub updated_of : Information → Outcome Information Vector → Answer Float × Information
updated_of o r = handed as_one (λ s. s) o r
