-- `Places::of` meets its contract: the products of sizes that were tested are small, and the parts lie one after another.
use mathlib.Core.Bool.{true, ◌&&◌}
use mathlib.Core.Path.{◌≡◌, sym, ap, ◌∙◌}
use Prim.Native.Nat.{ℕ}
use native.Mathlib.Omega.{arith}
use lib.Dec.{eqb}
use Rattle.answer.proofs.Answers.{passed}
use Rattle.matrix.proofs.Results.{value_answered}
use Rattle.sizes.specs.declared.Size.{Size}
use Rattle.sizes.specs.Size.{size_of}
use Rattle.layout.specs.Layout.{total, offset, model_length, bank_parts}
use Rattle.steps.specs.Step.{well_sized}
use Rattle.c_bank.specs.declared.places.Places.{Places}
use Rattle.c_bank.specs.Bank.{model_place, probabilities_place, is_bank, places_of}
use Rattle.c_bank.proofs.Banks.{few_given}
use Rattle.c_bank.proofs.places.Places.of.Goals as goal

-- both tests are that of a bank
tested : (n m k l : ℕ) {j : ℕ} → well_sized n m k ≡ true → j ≡ total (bank_parts n m k) → eqb l j ≡ true → is_bank n m k l ≡ true
unfolding is_bank
tested n m k l e d q = λ i. e i && (ap (eqb l) (sym d) ∙ q) i

-- each place is a sum of products
made : (n m k : ℕ) {N K : Size} {step x p l t c r μ : ℕ} → N ≡ size_of n → K ≡ size_of k → step ≡ model_length n → x ≡ model_place n 0 1 → p ≡ model_place n 0 2
    → l ≡ model_place n 0 4 → t ≡ offset (bank_parts n m k) 1 → c ≡ offset (bank_parts n m k) 2 → r ≡ offset (bank_parts n m k) 3 → μ ≡ probabilities_place n m k
    → ◌≡◌ {A = Places} (record { n = N; k = K; step = step; x = x; p = p; likelihood = l; transition = t; c = c; r = r; mu = μ }) (places_of n m k)
made n m k en ek es ex ep el et ec er eμ =
    λ i. record { n = en i; k = ek i; step = es i; x = ex i; p = ep i; likelihood = el i; transition = et i; c = ec i; r = er i; mu = eμ i }

pub overflow_mul-square : goal.overflow_mul-square
overflow_mul-square c = omega (arith, few_given c.sized.ensures c.in_ok-sized.was)

pub overflow_mul-step : goal.overflow_mul-step
overflow_mul-step c = omega (arith, few_given c.sized.ensures c.in_ok-sized.was)

pub overflow_add-step : goal.overflow_add-step
overflow_add-step c = omega (arith, few_given c.sized.ensures c.in_ok-sized.was)

pub overflow_add-step-2 : goal.overflow_add-step-2
overflow_add-step-2 c = omega (arith, few_given c.sized.ensures c.in_ok-sized.was)

pub overflow_mul-transition : goal.overflow_mul-transition
overflow_mul-transition c = omega (arith, few_given c.sized.ensures c.in_ok-sized.was)

pub overflow_mul-c : goal.overflow_mul-c
overflow_mul-c c = omega (arith, few_given c.sized.ensures c.in_ok-sized.was)

pub overflow_add-c : goal.overflow_add-c
overflow_add-c c = omega (arith, few_given c.sized.ensures c.in_ok-sized.was)

pub overflow_mul-r : goal.overflow_mul-r
overflow_mul-r c = omega (arith, few_given c.sized.ensures c.in_ok-sized.was)

pub overflow_add-r : goal.overflow_add-r
overflow_add-r c = omega (arith, few_given c.sized.ensures c.in_ok-sized.was)

pub overflow_mul-mu : goal.overflow_mul-mu
overflow_mul-mu c = omega (arith, few_given c.sized.ensures c.in_ok-sized.was)

pub overflow_add-mu : goal.overflow_add-mu
overflow_add-mu c = omega (arith, few_given c.sized.ensures c.in_ok-sized.was)

pub overflow_add-mu-2 : goal.overflow_add-mu-2
overflow_add-mu-2 c = omega (arith, few_given c.sized.ensures c.in_ok-sized.was)

pub overflow_add-result : goal.overflow_add-result
overflow_add-result c = omega (arith, few_given c.sized.ensures c.in_ok-sized.was)

pub returns : goal.returns
returns c =
    let a = c.args in
    let sized = sym c.sized.ensures ∙ c.in_ok-sized.was in
    let fits = passed _ _ (sym c.fits.ensures ∙ c.in_ok-fits.was) in
    value_answered (places_of a.n a.m a.k) (tested a.n a.m a.k a.len (passed _ _ sized) (omega arith) fits)
    (made a.n a.m a.k c.size_of.ensures c.size_of-2.ensures (omega arith) (omega arith) (omega arith) (omega arith) (omega arith) (omega arith) (omega arith) (omega arith))
