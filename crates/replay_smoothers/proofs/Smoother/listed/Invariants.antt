-- `listed` meets its contract: no word comes back.
use Rattle.std.proofs.Common.{◌<◌}
use Rattle.protocol.specs.Left.{left}
use Rattle.replay_smoothers.proofs.Smoother.listed.Given as goal

abbrev pub invariant-loop : goal.invariant-loop
invariant-loop l = left l.left < left l.given
