-- `steps` meets its contract, as no word comes back, and ends: each step takes a word.
use Rattle.std.proofs.Common.{◌<◌, length}
use Rattle.protocol.specs.Left.{left}
use Rattle.protocol.proofs.filter.steps.Given as goal

abbrev pub invariant-loop-s : goal.invariant-loop-s
invariant-loop-s g l = left l.left < left l.given

abbrev pub decreases-loop-s : goal.decreases-loop-s
decreases-loop-s g l = length l.words.rest.now
