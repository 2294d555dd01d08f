-- What the loop of `smooth_slots_two` keeps.
use Rattle.algebra.specs.Array.{used}
use Rattle.road.specs.Road.{estimate_of}
use Rattle.duty.proofs.Passes.{Going}
use Rattle.rts_pass.proofs.two.smooth_slots_two.Given as goal

abbrev pub invariant-loop-k : goal.invariant-loop-k
invariant-loop-k l = Going 2 (used 2 2 l.f) l.slots l.stored l.initial.out l.k (estimate_of l.e) l.out
