-- What the loop of `put_lines` keeps: the lines of the readings before the index follow the text.
use Rattle.std.proofs.Common.{◌≡◌, ◌+◌, ◌*◌, ◌≤◌, ◌++◌, take, length}
use Rattle.sheets.specs.Output.{readings_text}
use Rattle.sheet.proofs.printing.put_lines.Given as goal

abbrev pub invariant-loop-i : goal.invariant-loop-i
invariant-loop-i l =
    (l.text.items ≡ l.initial.text.items ++ readings_text 1 l.ends (take l.i l.metres)) × (length l.text.items ≡ length l.initial.text.items + 25 * l.i)
    × (length l.initial.text.items + 25 * length l.metres ≤ 1600)
