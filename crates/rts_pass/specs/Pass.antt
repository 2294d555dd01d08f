-- A slot's part of the pass over slots in a lent buffer. Definitions only.
use Rattle.std.specs.Prelude.{List, Float}
use Rattle.answer.specs.Answer.{Answer}
use Rattle.sizes.specs.declared.Size.{Size}
use Rattle.sizes.specs.Size.{count, part}
use Rattle.steps.specs.Step.{Rows, estimate_rows, arrays_of}
use Rattle.smoothing.specs.Smoother.{Slot, smooth_slot}
use Rattle.duty.specs.Passed.{smooth_left}

-- a slot before one whose smoothed pair stands in the arrays x and p, with the transition in f: what is told, and what they hold in the end
abbrev pub smooth_rows : Size → Rows → Slot → List Float → Rows → Answer (Unit {0}) × (List Float × Rows)
smooth_rows n f s x p = smooth_left arrays_of (x, p) (smooth_slot (count n) (part n n f) s (estimate_rows n x p))
