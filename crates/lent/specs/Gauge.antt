-- What the laws' instance does: the level before, and the gauge after. Definitions only.
use Rattle.std.specs.Prelude.{Float}
use Rattle.std.specs.Float.{binary64}
use Rattle.std.specs.Float.Ieee.{add, mul}
use Rattle.lent.specs.declared.Gauge.{Gauge}

abbrev pub moved_of : Gauge → Float → Float → Float × Gauge
moved_of g by times = (g.level, record { level = add binary64 g.level (mul binary64 by times) })
