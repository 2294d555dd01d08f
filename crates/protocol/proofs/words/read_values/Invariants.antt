-- `read_values` meets its contract: no more values are counted than there is room for.
use Rattle.std.proofs.Common.{◌≤◌, length}
use Rattle.protocol.proofs.words.read_values.Given as goal

abbrev pub invariant-loop-word : goal.invariant-loop-word
invariant-loop-word l = l.count ≤ length l.values
