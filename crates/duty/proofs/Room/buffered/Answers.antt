-- `buffered` meets its contract: the product does not wrap where the sizes are right.
use Rattle.std.proofs.Common.{arith, rules}
use Rattle.duty.specs.Buffer.{buffered}
use Rattle.duty.proofs.Sizes.{slots_given}
use Rattle.duty.proofs.Room.buffered.Goals as goal

pub overflow_mul-self : goal.overflow_mul-self
overflow_mul-self c =
    let s = c.args.self in
    omega (arith, slots_given s.n s.room s.count c.counted.ensures c.in_ok-size.was c.stride.ensures)

pub returns-in_err-fits : goal.returns-in_err-fits
unfolding buffered
returns-in_err-fits c =
    let s = c.args.self in
    let f = rw (slots_given s.n s.room s.count c.counted.ensures c.in_ok-size.was c.stride.ensures).is at c.fits.ensures in
    search rules

pub returns : goal.returns
unfolding buffered
returns c =
    let s = c.args.self in
    let f = rw (slots_given s.n s.room s.count c.counted.ensures c.in_ok-size.was c.stride.ensures).is at c.fits.ensures in
    search rules
