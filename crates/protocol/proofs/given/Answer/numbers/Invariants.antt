-- `numbers` meets its contract: no word comes back.
use Rattle.std.proofs.Common.{◌≤◌}
use Rattle.protocol.specs.Left.{left}
use Rattle.protocol.proofs.given.Answer.numbers.Given as goal

abbrev pub invariant-loop-x : goal.invariant-loop-x
invariant-loop-x l = left l.left ≤ left l.self
