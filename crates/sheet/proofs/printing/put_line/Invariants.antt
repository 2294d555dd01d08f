-- What the loop of `put_line` keeps: the fields of the numbers before the index follow the text.
use Rattle.std.proofs.Common.{◌≡◌, ◌+◌, ◌*◌, ◌≤◌, ◌++◌, take, length}
use Rattle.sheet.proofs.Text.{fields}
use Rattle.sheet.proofs.printing.put_line.Given as goal

abbrev pub invariant-loop-number : goal.invariant-loop-number
invariant-loop-number l =
    (l.text.items ≡ l.initial.text.items ++ fields (take l.number-index l.numbers)) × (length l.text.items ≡ length l.initial.text.items + 8 * l.number-index)
    × (length l.initial.text.items + 8 * length l.numbers + 1 ≤ 1600)
