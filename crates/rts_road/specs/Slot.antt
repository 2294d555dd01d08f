-- A slot of two states by its numbers. Definitions only.
use Rattle.road.specs.declared.Pair.{Pair}
use Rattle.road.specs.Road.{estimate_of}
use Rattle.smoothing.specs.Smoother.{Slot}

-- the filtered pair e and the predicted pair y
abbrev pub slot_of_two : Pair → Pair → Slot
slot_of_two e y = record { filtered = estimate_of e; predicted = estimate_of y }
