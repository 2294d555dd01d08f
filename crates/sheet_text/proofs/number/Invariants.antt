-- What the loop of `number` keeps: the spaces before what is left say nothing.
use Rattle.std.proofs.Common.{◌≡◌, ◌≤◌, length}
use Rattle.sheets.specs.Field.{read_field}
use Rattle.sheet_text.proofs.number.Given as goal

abbrev pub invariant-loop-first : goal.invariant-loop-first
invariant-loop-first l = (length l.field ≤ 8) × (read_field l.field ≡ read_field l.initial.field)

abbrev pub decreases-loop-first : goal.decreases-loop-first
decreases-loop-first l = length l.field
