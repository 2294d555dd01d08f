-- `slot` meets its contract: a slot that is stored lies within the buffer.
use Rattle.std.proofs.Common.{rules}
use Rattle.duty.proofs.Sizes.{buffered-given, slot_within}
use Rattle.duty.proofs.Room.slot.Goals as goal

pub numbers_of-requires : goal.numbers_of-requires
numbers_of-requires c = let s = c.args.self in slot_within _ s.n s.room s.count c.buffered.ensures c.in_ok-size.was c.if-self-k.false

pub returns-clause-value : goal.returns-clause-value
returns-clause-value c =
    let s = c.args.self in
    let g = buffered-given _ s.n s.room s.count c.buffered.ensures c.in_ok-size.was in
    let p = g.passed in
    let e = rw g.size at c.numbers_of.ensures.value in
    search rules

pub returns-clause-place : goal.returns-clause-place
returns-clause-place c =
    let s = c.args.self in
    rw (buffered-given _ s.n s.room s.count c.buffered.ensures c.in_ok-size.was).size at c.numbers_of.ensures.place
