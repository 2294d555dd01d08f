-- The square-root filter of one road, by its numbers: what a pair holds, and how an outcome is handed over. Definitions only.
use Rattle.std.specs.Prelude.{[], ◌∷◌, Float}
use Rattle.answer.specs.Answer.{Answer}
use Rattle.answer.specs.Outcome.{Outcome, handed}
use Rattle.algebra.specs.Matrix.{Vector, Matrix}
use Rattle.matrix.specs.Result.{as_one}
use Rattle.filtering.specs.Filter.{Sensor}
use Rattle.filtering.specs.SquareRoot.{Factored, factored}
use Rattle.road.specs.declared.Pair.{Pair}
use Rattle.road.specs.declared.Sensor.{Sensor as RoadSensor}
use Rattle.road.specs.Road.{matrix_of}
use Rattle.sqrt_steps.specs.Step.{ended}

abbrev pub factored_of : Pair → Factored
factored_of g = factored (g.x0 ∷ g.x1 ∷ []) (matrix_of g.p)

-- a sensor whose r is the deviation
abbrev pub channel_of : RoadSensor → Sensor Vector
channel_of f = record { n = 2; m = 1; h = (f.h0 ∷ f.h1 ∷ []) ∷ []; r = f.r ∷ [] }

-- ---- what is told and left: of a factor, and of the filter
abbrev pub turned_of : {R : Type 0} → Matrix → Outcome Matrix R → Answer (Unit {0}) × Matrix
turned_of L o = handed ended (λ A. A) L o

abbrev pub stepped_of : Factored → Outcome Factored (Unit {0}) → Answer (Unit {0}) × Factored
stepped_of g o = handed (λ t. t) (λ f. f) g o

abbrev pub updated_of : Factored → Outcome Factored Vector → Answer Float × Factored
updated_of g o = handed as_one (λ f. f) g o
