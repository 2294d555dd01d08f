-- `slots::latest_rejected` meets its contract: by the loop's record, `Searching`.
use mathlib.Core.Path.{refl, ◌∙◌}
use Prim.Native.Nat.{◌-◌}
use native.Mathlib.Omega.{arith}
use Rattle.tracker.proofs.Searching.{rejects_two, searching-start, searching-more, searching-found}
use Rattle.tracker.proofs.slots.latest_rejected.Goals as goal

pub loop-k-init : goal.loop-k-init
loop-k-init c = searching-start _ _ (omega arith)

pub loop-k-preserved : goal.loop-k-preserved
loop-k-preserved c =
    let k = c.loop-k.k in
    searching-more _ _ {j = k - 1} c.loop-k.invariant (omega arith) (rejects_two _ (k - 1) _ refl c.inverse_two-inverse.ensures c.is_err.ensures.value ∙ c.if-is_err.false)

pub returns-then-is_err : goal.returns-then-is_err
returns-then-is_err c =
    let k = c.loop-k.k in
    searching-found _ _ {j = k - 1} c.loop-k.invariant (omega arith) (rejects_two _ (k - 1) _ refl c.inverse_two-inverse.ensures c.is_err.ensures.value ∙ c.if-is_err.true)
