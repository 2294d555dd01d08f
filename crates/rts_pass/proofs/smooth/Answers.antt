-- `smooth` meets its contract: the pass fills the front of a buffer of +0, and as much of it as the output holds is copied.
use Rattle.std.proofs.Common.{arith}
use Rattle.rts_pass.proofs.Outputs.{shorter, as_long, asked, smooth-none, smooth-stopped, smooth-done}
use Rattle.rts_pass.proofs.smooth.Goals as goal

pub returns-then-room-eq0 : goal.returns-then-room-eq0
returns-then-room-eq0 c =
    let a = c.args in
    let s = a.room in
    smooth-none s.n s.room s.count a.slots.now a.transition a.output.now c.smoothable.ensures c.in_ok-size.was c.if-room-eq0.true

pub smooth_slots-requires : goal.smooth_slots-requires
smooth_slots-requires c =
    let a = c.args in
    let s = a.room in
    asked s.n s.room s.count a.slots.now a.transition a.output.now c.smoothable.ensures c.in_ok-size.was (omega (arith, c.if-room-eq0.false))

pub returns-in_err-smooth_slots : goal.returns-in_err-smooth_slots
returns-in_err-smooth_slots c =
    let a = c.args in
    let s = a.room in
    smooth-stopped s.n s.room s.count a.slots.now a.transition a.output.now c.smoothable.ensures c.in_ok-size.was c.smooth_slots.ensures _
    c.from_residual-in_err-smooth_slots.ensures.1 c.in_err-smooth_slots.was

pub slice_bounds-pairs-end : goal.slice_bounds-pairs-end
slice_bounds-pairs-end c =
    let a = c.args in
    let s = a.room in
    shorter s.n s.room s.count a.slots.now a.transition a.output.now c.smoothable.ensures c.in_ok-size.was c.smooth_slots.auto.out

pub slice_bounds-copy_from_slice-end : goal.slice_bounds-copy_from_slice-end
slice_bounds-copy_from_slice-end c =
    let a = c.args in
    let s = a.room in
    as_long s.n s.room s.count a.slots.now a.transition a.output.now c.smoothable.ensures c.in_ok-size.was _ c.smooth_slots.auto.out

pub copy_from_slice-requires : goal.copy_from_slice-requires
copy_from_slice-requires c =
    let a = c.args in
    let s = a.room in
    as_long s.n s.room s.count a.slots.now a.transition a.output.now c.smoothable.ensures c.in_ok-size.was _ c.smooth_slots.auto.out

pub returns : goal.returns
returns c =
    let a = c.args in
    let s = a.room in
    smooth-done s.n s.room s.count a.slots.now a.transition a.output.now c.smoothable.ensures c.in_ok-size.was c.smooth_slots.ensures c.in_ok-smooth_slots.was c.copy_from_slice.ensures.after
