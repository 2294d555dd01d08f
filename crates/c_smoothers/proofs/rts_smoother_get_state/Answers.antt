-- `rts_smoother_get_state` meets its contract: a slot that is stored is just as long as the output.
use Rattle.c_smoothers.proofs.Calls.{slot-copied}
use Rattle.c_smoothers.proofs.rts_smoother_get_state.Goals as goal

pub returns : goal.returns
returns c =
    let a = c.args in
    slot-copied a.n a.room a.count a.k a.slots.now a.out.now c.pairs.ensures c.in_ok-pairs.was c.in_ok-slot.ensures.value c.put_slice.ensures
