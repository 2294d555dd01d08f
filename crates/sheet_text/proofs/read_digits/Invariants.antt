-- What the loop of `read_digits` keeps: how what was read goes on.
use Rattle.std.proofs.Common.{◌^◌, ◌<◌}
use Rattle.sheets.proofs.Reading.{Left}
use Rattle.sheet_text.proofs.read_digits.Given as goal

abbrev pub invariant-loop-b : goal.invariant-loop-b
invariant-loop-b l = (l.size < 10 ^ l.b-index) × Left l.digits l.size l.b-index
