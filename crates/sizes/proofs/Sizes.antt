-- Laws of sizes: a size is 1 to 4, and what a test of sizes says where it is passed. Assumes nothing.
use mathlib.Core.Path.{◌≡◌, refl, ap, ◌∙◌}
use mathlib.Core.Bool.{true, ◌&&◌}
use Prim.Native.Nat.{ℕ, zero, suc, ◌≤◌, ◌<◌}
use native.Mathlib.Omega.{arith}
use lib.Dec.{leb, ltb}
use borrow.Author.Tests.{leb-true, ltb-true, le-leb}
use Rattle.answer.proofs.Choice.{and_left, and_right}
use Rattle.sizes.specs.declared.Size.{Size}
use Rattle.sizes.specs.declared.Size.TheVariants.{One, Two, Three, Four}
use Rattle.sizes.specs.Size.{count, size_of, sized, shaped, alike, chained, inside, paired, applicable}

pub record Bounds (n : ℕ) : Type 0 where
  pub least : 1 ≤ n
  pub most : n ≤ 4

pub bounds : (s : Size) → Bounds (count s)
bounds One = record { least = omega arith; most = omega arith }
bounds Two = record { least = omega arith; most = omega arith }
bounds Three = record { least = omega arith; most = omega arith }
bounds Four = record { least = omega arith; most = omega arith }

pub bounds_of : (n : ℕ) → sized n ≡ true → Bounds n
unfolding sized
bounds_of n e = record { least = leb-true 1 n (and_left _ _ e); most = leb-true n 4 (and_right (leb 1 n) _ e) }

pub sized-true : {n : ℕ} → Bounds n → sized n ≡ true
unfolding sized
sized-true {n} s = λ i. le-leb 1 n s.least i && le-leb n 4 s.most i

-- ---- the size of a number, and the number of a size
count-size_of : (n : ℕ) → Bounds n → count (size_of n) ≡ n
count-size_of zero s = absurd (omega arith)
count-size_of (suc zero) s = refl
count-size_of (suc (suc zero)) s = refl
count-size_of (suc (suc (suc zero))) s = refl
count-size_of (suc (suc (suc (suc zero)))) s = refl
count-size_of (suc (suc (suc (suc (suc n))))) s = absurd (omega arith)

pub is_count : {n : ℕ} {s : Size} → sized n ≡ true → s ≡ size_of n → count s ≡ n
is_count {n} e p = ap count p ∙ count-size_of n (bounds_of n e)

pub size_of-count : (s : Size) → s ≡ size_of (count s)
size_of-count One = refl
size_of-count Two = refl
size_of-count Three = refl
size_of-count Four = refl

-- ---- a number that was told apart by `<`
pub exactly : (m : ℕ) {k c : ℕ} → k ≡ c → m ≤ k → k < suc m → m ≡ c
exactly m e a b = omega arith

pub is_one : (s : Size) {k : ℕ} → k ≡ count s → k < 2 → 1 ≡ count s
is_one s e h = omega (arith, bounds s)

pub is_four : (s : Size) {k : ℕ} → k ≡ count s → 4 ≤ k → 4 ≡ count s
is_four s e h = omega (arith, bounds s)

pub one_of : (n : ℕ) → n < 2 → One ≡ size_of n
one_of zero h = refl
one_of (suc zero) h = refl
one_of (suc (suc n)) h = absurd (omega arith)

pub four_of : (n : ℕ) → 4 ≤ n → Four ≡ size_of n
four_of (suc (suc (suc (suc n)))) h = refl
four_of (suc (suc (suc zero))) h = absurd (omega arith)
four_of (suc (suc zero)) h = absurd (omega arith)
four_of (suc zero) h = absurd (omega arith)
four_of zero h = absurd (omega arith)

-- ---- what a test that was passed says
pub record Sizes (r c : ℕ) : Type 0 where
  pub rows : sized r ≡ true
  pub cols : sized c ≡ true

pub sizes_of : (r c : ℕ) → shaped r c ≡ true → Sizes r c
unfolding shaped
sizes_of r c e = record { rows = and_left _ _ e; cols = and_right (sized r) _ e }

pub record Chain (ar ac bc : ℕ) : Type 0 where
  pub rows : sized ar ≡ true
  pub inner : sized ac ≡ true
  pub cols : sized bc ≡ true

pub chained-sizes : (ar ac br bc : ℕ) → chained ar ac br bc ≡ true → Chain ar ac bc
unfolding chained
chained-sizes ar ac br bc e =
    let a = sizes_of ar ac (and_left _ _ e) in
    let b = sizes_of br bc (and_left _ _ (and_right (shaped ar ac) _ e)) in
    record { rows = a.rows; inner = a.cols; cols = b.cols }

pub alike-sizes : (ar ac br bc : ℕ) → alike ar ac br bc ≡ true → Sizes ar ac
unfolding alike
alike-sizes ar ac br bc e = sizes_of ar ac (and_left _ _ e)

pub record Inside (r c i j : ℕ) : Type 0 where
  pub sizes : Sizes r c
  pub row : i < r
  pub col : j < c

pub inside-sizes : (r c i j : ℕ) → inside r c i j ≡ true → Inside r c i j
unfolding inside
inside-sizes r c i j e =
    let s = and_right (shaped r c) _ e in
    record { sizes = sizes_of r c (and_left _ _ e); row = ltb-true i r (and_left _ _ s); col = ltb-true j c (and_right (ltb i r) _ s) }

pub paired-size : (n m : ℕ) → paired n m ≡ true → sized n ≡ true
unfolding paired
paired-size n m e = and_left _ _ e

pub applicable-sizes : (r c n : ℕ) → applicable r c n ≡ true → Sizes r c
unfolding applicable
applicable-sizes r c n e = sizes_of r c (and_left _ _ e)

pub shaped-true : {r c : ℕ} → Bounds r → Bounds c → shaped r c ≡ true
unfolding shaped
shaped-true a b = λ i. sized-true a i && sized-true b i
