-- `filter` meets its contract: by what each reading answers.
use mathlib.Core.Path.{sym, ap, ◌∙◌}
use native.Mathlib.Omega.{arith}
use Rattle.answer.specs.Answer.{mapped}
use Rattle.road.specs.Road.{estimate_of}
use Rattle.tracking.specs.Track.{slot_of}
use Rattle.tracker.proofs.Readings.{filtered}
use Rattle.tracker.proofs.Storing.{storing_more, storing_stop, storing_all}
use Rattle.tracker.proofs.filter.Goals as goal

pub returns-in_default : goal.returns-in_default
returns-in_default c =
    storing_stop _ _ _ _ _ _ c.loop-k.invariant (omega arith) _
    (sym (filtered _ _ _ _ c.corrected.result c.moved.ensures c.corrected.ensures) ∙ ap (mapped estimate_of) c.in_default.is)

pub loop-k-preserved : goal.loop-k-preserved
unfolding slot_of
loop-k-preserved c =
    storing_more _ _ _ _ _ _ c.loop-k.invariant (omega arith) _
    (sym (filtered _ _ _ _ c.corrected.result c.moved.ensures c.corrected.ensures) ∙ ap (mapped estimate_of) c.in-Ok.is)
    (λ i. record { filtered = estimate_of c.in-Ok.next; predicted = c.moved-in-loop-k.ensures i })
    c.put_slot.ensures c.put_slot.auto.slots

pub returns : goal.returns
returns c = storing_all _ _ _ _ _ _ c.loop-k.invariant (omega arith)
