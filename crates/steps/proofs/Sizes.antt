-- What the tests of a filter's sizes say where they are passed. Assumes nothing.
use mathlib.Core.Path.{◌≡◌, refl, sym, ap, ◌∙◌}
use mathlib.Core.Bool.{Bool, true, false}
use Prim.Native.Nat.{ℕ}
use borrow.Author.Tests.{eqb-true}
use Rattle.answer.proofs.Choice.{and_left, and_right}
use Rattle.std.specs.Prelude.{Ok}
use Rattle.answer.specs.Answer.{Answer, where_sized}
use Rattle.answer.proofs.Answers.{same_answer}
use Rattle.sizes.specs.declared.Size.{Size}
use Rattle.sizes.specs.Size.{sized, count, size_of}
use Rattle.sizes.proofs.Sizes.{is_count}
use Rattle.steps.specs.Step.{well_sized, fitting}

pub record Fits (n m i : ℕ) : Type 0 where
  pub states : sized n ≡ true
  pub measurements : sized m ≡ true
  pub inputs : sized i ≡ true

pub well_sized_lem : (n m i : ℕ) → well_sized n m i ≡ true → Fits n m i
unfolding well_sized
well_sized_lem n m i e =
    let r = and_right (sized n) _ e in
    record { states = and_left _ _ e; measurements = and_left _ _ r; inputs = and_right (sized m) _ r }

module _ (n m i asked k : ℕ) (e : fitting n m i asked k ≡ true) where
  pub fits : Fits n m i
  unfolding fitting
  fits = well_sized_lem n m i (and_left _ _ e)

  pub as_asked : asked ≡ k
  unfolding fitting
  as_asked = eqb-true asked k (and_right (well_sized n m i) _ e)

-- ---- what a call that tests the sizes gave: they passed its test t, and N, M and I are of these numbers
pub record Given (t : Bool) (n m i : ℕ) (N M I : Size) : Type 0 where
  pub passed : t ≡ true
  pub states : count N ≡ n
  pub measurements : count M ≡ m
  pub inputs : count I ≡ i

abbrev Three : Type 0
Three = Size × Size × Size

given : (t : Bool) (n m i : ℕ) {N M I : Size} {o : Answer Three} → (t ≡ true → Fits n m i) → o ≡ where_sized t (size_of n, size_of m, size_of i) → o ≡ Ok (N, M, I)
    → Given t n m i N M I
given true n m i f p q =
    let s = f refl in
    let e : ◌≡◌ {A = Three} _ _ = same_answer (sym q ∙ p) in
    record {
      passed = refl;
      states = is_count s.states (ap (λ (x : Three). x.0) e);
      measurements = is_count s.measurements (ap (λ (x : Three). x.1) e);
      inputs = is_count s.inputs (ap (λ (x : Three). x.2) e);
    }
given false n m i f p q = cc

pub sized_given : (n m i : ℕ) {N M I : Size} {o : Answer Three} → o ≡ where_sized (well_sized n m i) (size_of n, size_of m, size_of i) → o ≡ Ok (N, M, I)
    → Given (well_sized n m i) n m i N M I
sized_given n m i = given (well_sized n m i) n m i (well_sized_lem n m i)

pub fitted_given : (n m i asked k : ℕ) {N M I : Size} {o : Answer Three} → o ≡ where_sized (fitting n m i asked k) (size_of n, size_of m, size_of i) → o ≡ Ok (N, M, I)
    → Given (fitting n m i asked k) n m i N M I
fitted_given n m i asked k = given (fitting n m i asked k) n m i (fits n m i asked k)
