-- A bank in a slice: what its test says, the places that it gives, and that what a call reads and writes lies within. Assumes nothing.
use mathlib.Core.Path.{◌≡◌, sym, ap, ap₂, ◌∙◌, subst}
use mathlib.Core.Bool.{true}
use Prim.Native.Nat.{ℕ, ◌+◌, ◌*◌, ◌≤◌, ◌<◌}
use native.Mathlib.Nat.{mul-le-mul, mul-pos}
use native.Mathlib.Omega.{arith}
use borrow.Author.Tests.{eqb-true}
use Rattle.std.specs.Prelude.{Ok}
use Rattle.answer.specs.Answer.{Answer, where_sized}
use Rattle.answer.proofs.Answers.{passed, passed_is}
use Rattle.answer.proofs.Choice.{and_left, and_right}
use Rattle.sizes.specs.declared.Size.{Size}
use Rattle.sizes.specs.Size.{count, size_of}
use Rattle.sizes.proofs.Sizes.{bounds_of, is_count}
use Rattle.layout.specs.Layout.{total, model_length, bank_parts}
use Rattle.layout.proofs.Rows.{ends-within}
use Rattle.steps.specs.Step.{well_sized}
use Rattle.steps.proofs.Sizes.{well_sized_lem, sized_given}
use Rattle.c_bank.specs.declared.places.Places.{Places}
use Rattle.c_bank.specs.Bank.{probabilities_place, places_of, is_bank}

-- ---- the products of the sizes are small
pub record Few (n m k : ℕ) : Type 0 where
  pub states : n ≤ 4
  pub measurements : m ≤ 4
  pub models : k ≤ 4
  pub square : n * n ≤ 16
  pub transition : k * k ≤ 16
  pub measuring : m * n ≤ 16
  pub noise : m * m ≤ 16
  pub all : k * model_length n ≤ 212

length-bound : {n : ℕ} → n ≤ 4 → model_length n ≤ 53
length-bound {n} h = omega (arith, mul-le-mul h h)

few_of : (n m k : ℕ) → well_sized n m k ≡ true → Few n m k
few_of n m k e =
    let s = well_sized_lem n m k e in
    let N = (bounds_of n s.states).most in
    let M = (bounds_of m s.measurements).most in
    let K = (bounds_of k s.inputs).most in
    record { states = N; measurements = M; models = K; square = mul-le-mul N N; transition = mul-le-mul K K; measuring = mul-le-mul M N; noise = mul-le-mul M M; all = mul-le-mul K (length-bound N) }

pub few_given : {n m k : ℕ} {N M K : Size} {o : Answer (Size × Size × Size)} → o ≡ where_sized (well_sized n m k) (size_of n, size_of m, size_of k) → o ≡ Ok (N, M, K)
    → Few n m k
few_given {n} {m} {k} p q = few_of n m k (sized_given n m k p q).passed

-- ---- a slice of l numbers that passed the test of a bank
pub record Whole (n m k l : ℕ) : Type 0 where
  pub sizes : well_sized n m k ≡ true
  pub few : Few n m k
  pub long : l ≡ total (bank_parts n m k)

pub whole_of : (n m k l : ℕ) → is_bank n m k l ≡ true → Whole n m k l
unfolding is_bank
whole_of n m k l e = record { sizes = and_left _ _ e; few = few_of n m k (and_left _ _ e); long = eqb-true l _ (and_right (well_sized n m k) _ e) }

-- model i of k lies within the models
pub model-within : (n k i : ℕ) → i < k → i * model_length n + model_length n ≤ k * model_length n
model-within n k i h = ends-within (model_length n) h

-- ---- and the places of its parts
pub record Placed (n m k l : ℕ) (P : Places) : Type 0 where
  pub passed : is_bank n m k l ≡ true
  pub whole : Whole n m k l
  pub states : count P.n ≡ n
  pub models : count P.k ≡ k
  pub step : P.step ≡ model_length n
  pub x : P.x ≡ n * n
  pub p : P.p ≡ n * n + n
  pub likelihood : P.likelihood + 1 ≡ model_length n
  pub transition : P.transition ≡ k * model_length n
  pub c : P.c ≡ P.transition + k * k
  pub r : P.r ≡ P.c + m * n
  pub after_r : P.mu ≡ P.r + m * m
  pub mu : P.mu ≡ probabilities_place n m k

pub placed_by : (n m k l : ℕ) {P : Places} → is_bank n m k l ≡ true → P ≡ places_of n m k → Placed n m k l P
placed_by n m k l t is =
    let w = whole_of n m k l t in
    let z = well_sized_lem n m k w.sizes in
    record {
      passed = t;
      whole = w;
      states = is_count z.states (ap (λ (P : Places). P.n) is);
      models = is_count z.inputs (ap (λ (P : Places). P.k) is);
      step = ap (λ (P : Places). P.step) is;
      x = ap (λ (P : Places). P.x) is ∙ omega arith;
      p = ap (λ (P : Places). P.p) is ∙ omega arith;
      likelihood = ap (λ (P : Places). P.likelihood + 1) is ∙ omega arith;
      transition = ap (λ (P : Places). P.transition) is ∙ omega arith;
      c = omega (arith, ap (λ (P : Places). P.c) is, ap (λ (P : Places). P.transition) is);
      r = omega (arith, ap (λ (P : Places). P.r) is, ap (λ (P : Places). P.c) is);
      after_r = omega (arith, ap (λ (P : Places). P.mu) is, ap (λ (P : Places). P.r) is);
      mu = ap (λ (P : Places). P.mu) is;
    }

pub placed_of : {n m k l : ℕ} {P : Places} {o : Answer Places} → o ≡ where_sized (is_bank n m k l) (places_of n m k) → o ≡ Ok P → Placed n m k l P
placed_of {n} {m} {k} {l} e q = placed_by n m k l (passed (is_bank n m k l) (places_of n m k) (sym e ∙ q)) (passed_is (is_bank n m k l) (places_of n m k) (sym e ∙ q))

-- what holds of the sizes by their type holds of the numbers that they were made of
pub by_numbers : (F : ℕ → ℕ → Type 0) {n m k l : ℕ} {P : Places} → Placed n m k l P → F (count P.n) (count P.k) → F n k
by_numbers F {n} {m} {k} {l} {P} g h = subst (λ (n : ℕ). F n k) g.states (subst (λ (k : ℕ). F (count P.n) k) g.models h)

-- ---- what the calls ask for
pub record Rooms (k l : ℕ) (P : Places) : Type 0 where
  pub transition : P.transition + count P.k * k + 4 ≤ l + k
  pub states : P.x + count P.k * P.step + 4 ≤ l + P.step
  pub apart : count P.n * count P.n ≤ P.step
  pub covariances : P.p + count P.k * P.step + count P.n * count P.n + 4 ≤ l + P.step
  pub likelihoods : P.likelihood + count P.k * P.step + 1 ≤ l + P.step
  pub probabilities : P.mu + count P.k ≤ l

pub rooms_of : {n m k l : ℕ} {P : Places} → Placed n m k l P → Rooms k l P
rooms_of {n} {m} {k} {l} {P} g =
    let z = well_sized_lem n m k g.whole.sizes in
    let N = (bounds_of n z.states).least in
    let M = (bounds_of m z.measurements).least in
    let K = (bounds_of k z.inputs).least in
    let square : count P.n * count P.n ≡ n * n = ap (λ (n : ℕ). n * n) g.states in
    let across : count P.k * k ≡ k * k = ap (λ (j : ℕ). j * k) g.models in
    let all : count P.k * P.step ≡ k * model_length n = ap₂ (λ (k l : ℕ). k * l) g.models g.step in
    record {
      transition = omega (arith, g, across, g.whole.long, K, mul-pos M N, mul-pos M M);
      states = omega (arith, g, all, g.whole.long, K, N, mul-pos N N);
      apart = omega (arith, g, square);
      covariances = omega (arith, g, all, square, g.whole.long, K, N, mul-pos K K, mul-pos N N, mul-pos M N, mul-pos M M);
      likelihoods = omega (arith, g, all, g.whole.long);
      probabilities = omega (arith, g, g.whole.long);
    }
