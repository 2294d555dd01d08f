-- `two::smooth_slots_two` meets its contract: the loop has come back to slot k, and e is its smoothed pair.
use mathlib.Core.Path.{sym, ap, ◌∙◌}
use Prim.Native.Nat.{◌-◌}
use native.Mathlib.Omega.{arith}
use Rattle.answer.specs.Answer.{mapped}
use Rattle.algebra.specs.Array.{cut, used}
use Rattle.road.specs.Road.{estimate_of}
use Rattle.answer.proofs.Exits.{exit}
use Rattle.duty.specs.Buffer.{slot_from}
use Rattle.duty.proofs.Passes.{going_start, going_more, going_stop, going_done}
use Rattle.rts_pass.proofs.two.smooth_slots_two.Goals as goal

pub loop-k-init : goal.loop-k-init
loop-k-init c = going_start _ _ _ _ (omega arith) (omega arith) c.pair_at-e.ensures

pub loop-k-preserved : goal.loop-k-preserved
unfolding used cut slot_from
loop-k-preserved c =
    let k = c.loop-k.k in
    going_more _ _ _ _ c.loop-k.invariant {j = k - 1} (omega arith) (λ i. record { filtered = c.pair_at.ensures i; predicted = c.pair_at-in-loop-k.ensures i })
    (sym c.smooth_two.ensures ∙ ap (mapped estimate_of) c.in_ok-e.was) (omega arith) c.put_two.ensures c.put_two.auto.out

pub returns-in_err-e : goal.returns-in_err-e
unfolding used cut slot_from
returns-in_err-e c =
    let k = c.loop-k.k in
    going_stop _ _ _ _ c.loop-k.invariant {j = k - 1} (omega arith) (λ i. record { filtered = c.pair_at.ensures i; predicted = c.pair_at-in-loop-k.ensures i })
    (sym c.smooth_two.ensures ∙ ap (mapped estimate_of) c.in_err-e.was) (exit c.from_residual.ensures.1)

pub returns : goal.returns
returns c = going_done _ _ _ _ c.loop-k.invariant (omega arith) c.put_two-2.ensures
