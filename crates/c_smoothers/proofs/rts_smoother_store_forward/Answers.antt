-- `rts_smoother_store_forward` meets its contract: two copies, one behind the other.
use Rattle.std.proofs.Common.{arith}
use Rattle.c_smoothers.proofs.Calls.{storing, store_done}
use Rattle.c_smoothers.proofs.rts_smoother_store_forward.Goals as goal

pub overflow_mul-at : goal.overflow_mul-at
overflow_mul-at c =
    let a = c.args in
    omega (arith, storing a.n a.room a.count.now a.slots.now a.filtered.now a.predicted.now c.storable.ensures c.in_ok-size.was c.if-room-stored.false c.stride.ensures)

pub overflow_add-at : goal.overflow_add-at
overflow_add-at c =
    let a = c.args in
    omega (arith, storing a.n a.room a.count.now a.slots.now a.filtered.now a.predicted.now c.storable.ensures c.in_ok-size.was c.if-room-stored.false c.stride.ensures)

pub returns : goal.returns
returns c =
    let a = c.args in
    store_done a.n a.room a.count.now a.slots.now a.filtered.now a.predicted.now c.storable.ensures c.in_ok-size.was c.if-room-stored.false c.stride.ensures
    c.put_slice.auto.b c.put_slice.ensures c.put_slice-2.ensures
