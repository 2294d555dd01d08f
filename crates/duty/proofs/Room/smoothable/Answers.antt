-- `smoothable` meets its contract: the product does not wrap where the sizes are right.
use Rattle.std.proofs.Common.{arith, rules}
use Rattle.duty.specs.Buffer.{smoothable}
use Rattle.duty.proofs.Sizes.{pairs_given}
use Rattle.duty.proofs.Room.smoothable.Goals as goal

pub overflow_mul-self : goal.overflow_mul-self
overflow_mul-self c =
    let s = c.args.self in
    omega (arith, pairs_given c.args.len s.n s.room s.count c.buffered.ensures c.in_ok-size.was c.pair_length.ensures)

pub returns-in_err-fits : goal.returns-in_err-fits
unfolding smoothable
returns-in_err-fits c =
    let s = c.args.self in
    let f = rw (pairs_given c.args.len s.n s.room s.count c.buffered.ensures c.in_ok-size.was c.pair_length.ensures).is at c.fits.ensures in
    search rules

pub returns : goal.returns
unfolding smoothable
returns c =
    let s = c.args.self in
    let f = rw (pairs_given c.args.len s.n s.room s.count c.buffered.ensures c.in_ok-size.was c.pair_length.ensures).is at c.fits.ensures in
    search rules
