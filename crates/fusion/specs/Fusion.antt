-- Sensors fused one after another: the fold of the one-sensor step over their records. Definitions only.
use Rattle.std.specs.Prelude.{List, [], ◌∷◌, Ok, Err}
use Rattle.answer.specs.declared.Step.{Step}
use Rattle.answer.specs.Answer.{Answer, mapped}
use Rattle.answer.specs.Outcome.{only, if_fitting}
use Rattle.steps.specs.Step.{well_sized}
use Rattle.information_filter.specs.declared.InformationFilter.{InformationFilter}
use Rattle.information_filter.specs.declared.Sensor.{Sensor}
use Rattle.information_filter.specs.Record.{stepped, fusing}

-- what a step tells, and the filter that it leaves
abbrev pub Stepped : Type 0
Stepped = Step (Unit {0}) InformationFilter

-- before the first sensor
abbrev pub begun_of : InformationFilter → Stepped
begun_of f = stepped f (if_fitting (well_sized f.n f.m f.i) (only tt))

-- one sensor more; a refusal stands
abbrev pub where_done : {A : Type 0} → Answer A → Stepped → Stepped → Stepped
where_done (Ok u) a b = a
where_done (Err k) a b = b

abbrev pub joined_of : Stepped → Sensor → Stepped
joined_of g s = where_done g.answer (stepped g.left (fusing g.left s)) g

unfoldable pub joined_all : Stepped → List Sensor → Stepped
joined_all g [] = g
joined_all g (s ∷ l) = joined_all (joined_of g s) l

-- the filter that is left, or the refusal
abbrev pub kept_of : Stepped → Answer InformationFilter
kept_of g = mapped (λ u. g.left) g.answer

-- after the last: a refusal leaves the filter f as it was
abbrev pub ended_of : Stepped → InformationFilter → Stepped
ended_of g f = where_done g.answer g (record { answer = g.answer; left = f })

abbrev pub fused_of : InformationFilter → List Sensor → Stepped
fused_of f l = ended_of (joined_all (begun_of f) l) f
