-- `imm_fused_estimate` meets its contract: what it reads lies within the bank, and what it puts out is the fused state.
use mathlib.Core.Path.{sym, ◌∙◌}
use mathlib.Core.Bool.{◌&&◌}
use native.Mathlib.Omega.{arith}
use borrow.Author.Tests.{eqb-true}
use Rattle.std.specs.Prelude.{Ok}
use Rattle.answer.specs.Told.{written}
use Rattle.answer.proofs.Answers.{passed}
use Rattle.matrix.proofs.Results.{as_answered}
use Rattle.mixing.specs.Mixing.{fused_estimate}
use Rattle.c_bank.specs.Bank.{is_bank_with, bank_at}
use Rattle.c_bank.proofs.Banks.{placed_of, rooms_of}
use Rattle.c_bank.proofs.Steps.{fuses}
use Rattle.c_bank.proofs.imm_fused_estimate.Goals as goal

pub returns : goal.returns
unfolding is_bank_with
returns c =
    let a = c.args in
    let b = a.bank.now in
    let g = placed_of c.of.ensures c.in_ok-places.was in
    let long = passed _ _ (sym c.fits.ensures ∙ c.in_ok-fits.was) in
    let is = fuses c.in_ok-places.places a.m b g g c.each-x.result c.each-mu.result c.weighted-fused.result a.out.now _ c.each-x.ensures c.each-mu.ensures c.weighted-fused.ensures (eqb-true _ _ long) c.put_row.ensures in
    as_answered (written a.out.now) (fused_estimate a.n a.k (bank_at a.n a.m a.k b)) (λ i. g.passed i && long i) (λ i. (Ok tt, is i))

pub each-x-requires : goal.each-x-requires
each-x-requires c = omega (arith, (rooms_of (placed_of c.of.ensures c.in_ok-places.was)).states)

pub each-mu-requires : goal.each-mu-requires
each-mu-requires c = omega (arith, (rooms_of (placed_of c.of.ensures c.in_ok-places.was)).probabilities)

pub put_row-requires : goal.put_row-requires
put_row-requires c =
    let long = eqb-true _ _ (passed _ _ (sym c.fits.ensures ∙ c.in_ok-fits.was)) in
    omega (arith, long, (placed_of c.of.ensures c.in_ok-places.was).states)
