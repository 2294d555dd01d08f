-- What the loop of `smooth_slots` keeps.
use Rattle.sizes.specs.Size.{count, part}
use Rattle.steps.specs.Step.{estimate_rows}
use Rattle.duty.proofs.Passes.{Going}
use Rattle.rts_pass.proofs.smooth_slots.Given as goal

abbrev pub invariant-loop-k : goal.invariant-loop-k
invariant-loop-k l = Going (count l.n) (part l.n l.n l.f) l.slots l.stored l.initial.out l.k (estimate_rows l.n l.x l.p) l.out
