-- `store` meets its contract: the slot lies within the buffer.
use Rattle.std.proofs.Common.{arith}
use Rattle.rts_smoother.proofs.Records.{of_slot, fitting, store_done}
use Rattle.rts_smoother.proofs.RtsSmoother.store.Goals as goal

pub overflow_mul-self : goal.overflow_mul-self
overflow_mul-self c =
    let a = c.args in
    omega (arith, fitting a.self a.slots.now a.state c.in_ok-n.n c.storable.ensures c.in_ok-n.was c.if-self.false c.stride.ensures)

pub put_slot-requires : goal.put_slot-requires
put_slot-requires c =
    let a = c.args in
    let f = fitting a.self a.slots.now a.state c.in_ok-n.n c.storable.ensures c.in_ok-n.was c.if-self.false c.stride.ensures in
    (of_slot a.self a.slots.now a.state c.in_ok-n.n c.storable.ensures c.in_ok-n.was c.if-self.false c.stride.ensures, f.ends)

pub returns : goal.returns
returns c =
    let a = c.args in
    store_done a.self a.slots.now a.state c.in_ok-n.n c.storable.ensures c.in_ok-n.was c.if-self.false c.stride.ensures c.put_slot.ensures
