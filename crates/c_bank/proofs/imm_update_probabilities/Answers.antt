-- `imm_update_probabilities` meets its contract: what it reads lies within the bank, and what it leaves is the bank's own update.
use native.Mathlib.Omega.{arith}
use Rattle.std.specs.Prelude.{Ok}
use Rattle.answer.specs.Outcome.{into, handed}
use Rattle.matrix.proofs.Results.{as_answered}
use Rattle.mixing.specs.Mixing.{update_probabilities}
use Rattle.c_bank.specs.Bank.{bank_at, with_probabilities}
use Rattle.c_bank.proofs.Banks.{placed_of, rooms_of}
use Rattle.c_bank.proofs.Steps.{updates}
use Rattle.c_bank.proofs.imm_update_probabilities.Goals as goal

pub returns : goal.returns
returns c =
    let a = c.args in
    let b = a.bank.now in
    let g = placed_of c.of.ensures c.in_ok-places.was in
    let is = updates c.in_ok-places.places a.m b g g c.each-l.result c.each-mu.result c.update_probabilities.new.mu _ c.each-l.ensures c.each-mu.ensures c.update_probabilities.ensures c.put_row.ensures in
    as_answered (λ o. handed (λ w. w) (with_probabilities a.n a.m a.k b) b (into o)) (update_probabilities a.k (bank_at a.n a.m a.k b)) g.passed (λ i. (Ok tt, is i))

pub each-l-requires : goal.each-l-requires
each-l-requires c = omega (arith, (rooms_of (placed_of c.of.ensures c.in_ok-places.was)).likelihoods)

pub each-mu-requires : goal.each-mu-requires
each-mu-requires c = omega (arith, (rooms_of (placed_of c.of.ensures c.in_ok-places.was)).probabilities)

pub put_row-requires : goal.put_row-requires
put_row-requires c = (rooms_of (placed_of c.of.ensures c.in_ok-places.was)).probabilities
