-- What the loop of `latest_rejected` keeps.
use Rattle.tracker.proofs.Searching.{Searching}
use Rattle.tracker.proofs.slots.latest_rejected.Given as goal

abbrev pub invariant-loop-k : goal.invariant-loop-k
invariant-loop-k l = Searching l.slots l.stored l.k
