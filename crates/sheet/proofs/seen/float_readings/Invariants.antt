-- What the loop of `float_readings` keeps: the readings before the index are there as floats.
use Rattle.std.proofs.Common.{◌≡◌, map, take, length}
use Rattle.sheets.specs.Report.{measured_of}
use Rattle.sheet.proofs.seen.float_readings.Given as goal

abbrev pub invariant-loop-reading : goal.invariant-loop-reading
invariant-loop-reading l = (l.floats.items ≡ map measured_of (take l.reading-index l.readings)) × (length l.floats.items ≡ l.reading-index)
