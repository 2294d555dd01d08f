-- `imm_model_probability` meets its contract: the probability of a model that is there lies within the bank.
use mathlib.Core.Path.{◌≡◌, sym, ◌∙◌}
use mathlib.Core.Bool.{◌&&◌}
use Prim.Native.Nat.{ℕ, ◌+◌, ◌<◌}
use native.Mathlib.Omega.{arith}
use lib.Dec.{ltb}
use borrow.Author.Tests.{ltb-true}
use Rattle.std.specs.Prelude.{Ok}
use Rattle.answer.specs.Answer.{Answer, where_sized}
use Rattle.answer.specs.Told.{written}
use Rattle.answer.proofs.Answers.{passed}
use Rattle.matrix.proofs.Results.{as_answered}
use Rattle.algebra.specs.Matrix.{at}
use Rattle.c_bank.specs.declared.places.Places.{Places}
use Rattle.c_bank.specs.Bank.{probabilities_place, is_model}
use Rattle.c_bank.proofs.Banks.{Placed, placed_of, rooms_of}
use Rattle.c_bank.proofs.imm_model_probability.Goals as goal

-- the place of the probability of model j lies within a bank of l numbers
inside : {n m k l : ℕ} {P : Places} (j : ℕ) {t : Answer (Unit {0})} → Placed n m k l P → t ≡ where_sized (ltb j k) tt → t ≡ Ok tt → P.mu + j < l
inside j g f q = omega (arith, g.models, (rooms_of g).probabilities, ltb-true j _ (passed _ _ (sym f ∙ q)))

pub returns : goal.returns
unfolding is_model
returns c =
    let a = c.args in
    let g = placed_of c.of.ensures c.in_ok-places.was in
    let there = passed _ _ (sym c.fits.ensures ∙ c.in_ok-fits.was) in
    as_answered (written a.out.now) (at a.bank.now (probabilities_place a.n a.m a.k + a.model)) (λ i. g.passed i && there i) (λ i. (Ok tt, at a.bank.now (g.mu i + a.model)))

pub overflow_add-out : goal.overflow_add-out
overflow_add-out c = let h = inside c.args.model (placed_of c.of.ensures c.in_ok-places.was) c.fits.ensures c.in_ok-fits.was in omega arith

pub offset_bounds-bank-places : goal.offset_bounds-bank-places
offset_bounds-bank-places c = let h = inside c.args.model (placed_of c.of.ensures c.in_ok-places.was) c.fits.ensures c.in_ok-fits.was in omega arith

pub bounds-bank-places : goal.bounds-bank-places
bounds-bank-places c = inside c.args.model (placed_of c.of.ensures c.in_ok-places.was) c.fits.ensures c.in_ok-fits.was
