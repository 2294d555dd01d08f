-- `left` meets its contract: no word comes back.
use Rattle.std.proofs.Common.{◌≤◌}
use Rattle.protocol.specs.Left.{left}
use Rattle.replay_imm.proofs.left.Given as goal

abbrev pub invariant-loop-model : goal.invariant-loop-model
invariant-loop-model l = left l.left ≤ left l.given
