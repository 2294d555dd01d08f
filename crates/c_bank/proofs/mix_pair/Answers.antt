-- `mix_pair` meets its contract: both rows are read, then both are mixed and put back.
use Rattle.sizes.specs.Size.{count}
use Rattle.sizes.proofs.Sizes.{bounds}
use Rattle.c_bank.specs.Bank.{mixed_row_in}
use Rattle.c_bank.proofs.Serials.{both-placed}
use Rattle.c_bank.proofs.Rowing.{pair_is}
use Rattle.c_bank.proofs.mix_pair.Goals as goal

pub returns : goal.returns
returns c =
    let z = c.args in
    let N = count z.places.n in
    let L = z.places.step in
    let small = (bounds z.places.n).most in
    both-placed z.q L (mixed_row_in N 2 L z.by.x.now z.by.m.now z.by.w.now z.bank.now z.q z.r) z.bank.now
    (pair_is N L z.by.x.now z.by.m.now z.by.w.now z.bank.now z.q z.r 0 small c.read-a.ensures c.read-b.ensures c.mixed_pair-first.ensures)
    (pair_is N L z.by.x.now z.by.m.now z.by.w.now z.bank.now z.q z.r 1 small c.read-a.ensures c.read-b.ensures c.mixed_pair-second.ensures)
    c.put_row.ensures c.put_row-2.ensures
