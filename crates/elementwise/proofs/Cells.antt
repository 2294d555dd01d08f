-- Laws of the functions cell by cell: what the used parts of their operands come to, and the loops that add and that compare. Assumes nothing.
use mathlib.Core.Path.{◌≡◌, refl, sym, ap, ap₂, ◌∙◌}
use mathlib.Core.List.{List, [], ◌∷◌}
use mathlib.Core.Bool.{Bool, true, false, ◌&&◌}
use mathlib.Core.Logic.{⊎_elim}
use Prim.Native.Nat.{ℕ, zero, suc, ◌+◌, ◌≤◌, ◌<◌, suc-le-suc}
use native.Mathlib.Nat.{le_of_lt, le_refl, not-suc-le-zero, le_of_suc-le-suc, eq-or-lt_of_le}
use native.Mathlib.Numerals.{add-one}
use native.Mathlib.Omega.{arith}
use lib.Ieee.{Float, eq, nan}
use lib.ListN.{length, take, replicate}
use lib.Pointwise.{pointwise}
use Rattle.std.proofs.lemmas.List.{get_or-take, length-take-le}
use Rattle.std.proofs.Math.Bool.{and_assoc}
use Rattle.scalar.specs.Number.{◌⊗◌, +0}
use Rattle.answer.proofs.Tables.{table_ext}
use Rattle.algebra.specs.Matrix.{at, row, cell, sum_from, sum_of, filled, scale, trace, squares, every, equal}
use Rattle.algebra.specs.Array.{cut, used}
use Rattle.algebra.proofs.Matrices.{sum_from_ext, sum_ext}
use Rattle.algebra.proofs.Arrays.{cell-used, used-mat, both_used}

-- ---- the used part of what was made for all sixteen cells
pub used-filled : (r c : ℕ) (x : Float) → r ≤ 4 → c ≤ 4 → used r c (replicate 4 (replicate 4 x)) ≡ filled r c x
unfolding filled
used-filled r c x hr hc = used-mat r c (λ i j. x) hr hc

pub used-scale : (r c : ℕ) (a : List (List Float)) (s : Float) → r ≤ 4 → c ≤ 4 → used r c (scale 4 4 a s) ≡ scale r c (used r c a) s
unfolding scale
used-scale r c a s hr hc = used-mat r c (λ i j. cell a i j ⊗ s) hr hc ∙ sym (both_used (λ x y. x ⊗ s) r c a a)

-- ---- sums

pub trace-used : (n : ℕ) (a : List (List Float)) → trace n (used n n a) ≡ sum_of n (λ i. cell a i i)
unfolding trace
trace-used n a = sum_ext n (λ i. cell (used n n a) i i) (λ i. cell a i i) (λ i h. cell-used n n a i i h h)

-- A loop has added the squares of the first i of r rows: its invariant
pub record Squaring (a : List (List Float)) (r c i : ℕ) (s : Float) : Type 0 where
  pub within : i ≤ r
  pub is : s ≡ squares i c (used r c a)

pub squaring_none : (a : List (List Float)) (r c : ℕ) → Squaring a r c 0 +0
unfolding squares
squaring_none a r c = record { within = omega arith; is = refl }

pub squaring_more : {a : List (List Float)} {r c i : ℕ} {s t : Float} → Squaring a r c i s → i < r → t ≡ sum_from s c (λ j. cell a i j ⊗ cell a i j)
    → Squaring a r c (i + 1) t
unfolding squares
squaring_more {a} {r} {c} {i} {s} {t} e h v =
    record {
      within = omega arith;
      is =
          v
          ∙ sum_from_ext c (λ j. cell a i j ⊗ cell a i j) (λ j. cell (used r c a) i j ⊗ cell (used r c a) i j) e.is
          (λ j g k. sym (cell-used r c a i j h g) k ⊗ sym (cell-used r c a i j h g) k)
          ∙ ap (λ (m : ℕ). squares m c (used r c a)) (sym (add-one i));
    }

pub squaring_all : {a : List (List Float)} {r c i k : ℕ} {s : Float} → Squaring a r c i s → r ≤ i → r ≡ k → s ≡ squares k c (used k c a)
squaring_all {a} {r} {c} {i} {k} {s} e h p =
    let same : i ≡ k = omega arith in
    e.is ∙ λ j. squares (same j) c (used (p j) c a)

-- the front of a list, where it is at least so long
pub squares-front : (n k : ℕ) (v : List Float) (s : Float) → n ≤ length v → n ≡ k
    → sum_from s (length (take n v)) (λ j. at (take n v) j ⊗ at (take n v) j) ≡ sum_from s k (λ j. at v j ⊗ at v j)
squares-front n k v s h e =
    ap (λ (m : ℕ). sum_from s m (λ j. at (take n v) j ⊗ at (take n v) j)) (length-take-le n v h)
    ∙ sum_from_ext n (λ j. at (take n v) j ⊗ at (take n v) j) (λ j. at v j ⊗ at v j) refl (λ j g. ap (λ (x : Float). x ⊗ x) (get_or-take n v j nan g))
    ∙ ap (λ (m : ℕ). sum_from s m (λ j. at v j ⊗ at v j)) e

-- and of a list of rows
pub used-front : (n k c : ℕ) (a : List (List Float)) → n ≡ k → used k c (take n a) ≡ used k c a
unfolding used
used-front n k c a e = table_ext k (λ i. cut c (row (take n a) i)) (λ i. cut c (row a i)) (λ i h. ap (cut c) (get_or-take n a i [] (omega (arith, e))))

-- ---- tests that all hold
and-true : (b : Bool) → b && true ≡ b
and-true true = refl
and-true false = refl

every-front : (n : ℕ) (f : ℕ → Bool) → every (suc n) f ≡ f 0 && every n (λ i. f (suc i))
unfolding every
every-front zero f = sym (and-true (f 0))
every-front (suc n) f = ap (λ (b : Bool). b && f (suc n)) (every-front n f) ∙ and_assoc (f 0) (every n (λ i. f (suc i))) (f (suc n))

-- `==` of the fronts of two lists, where they are at least so long
pub equal-front : (n : ℕ) (v w : List Float) → n ≤ length v → n ≤ length w → pointwise eq (take n v) (take n w) ≡ every n (λ j. eq (at v j) (at w j))
unfolding every
equal-front zero v w h g = refl
equal-front (suc n) [] w h g = absurd (not-suc-le-zero h)
equal-front (suc n) (x ∷ v) [] h g = absurd (not-suc-le-zero g)
equal-front (suc n) (x ∷ v) (y ∷ w) h g =
    ap (λ (b : Bool). eq x y && b) (equal-front n v w (le_of_suc-le-suc h) (le_of_suc-le-suc g)) ∙ sym (every-front n (λ j. eq (at (x ∷ v) j) (at (y ∷ w) j)))

every_ext : (n : ℕ) (f g : ℕ → Bool) → ((i : ℕ) → i < n → f i ≡ g i) → every n f ≡ every n g
unfolding every
every_ext zero f g h = refl
every_ext (suc n) f g h = ap₂ (λ (x y : Bool). x && y) (every_ext n f g (λ i l. h i (le_of_lt (suc-le-suc l)))) (h n (le_refl (suc n)))

-- A loop has passed the first i of n tests: its invariant
pub record Passing (f : ℕ → Bool) (n i : ℕ) : Type 0 where
  pub within : i ≤ n
  pub is : every i f ≡ true

pub passing_none : (f : ℕ → Bool) (n : ℕ) → Passing f n 0
unfolding every
passing_none f n = record { within = omega arith; is = refl }

pub passing_more : {f : ℕ → Bool} {n i : ℕ} → Passing f n i → i < n → f i ≡ true → Passing f n (i + 1)
unfolding every
passing_more {f} {n} {i} e h v =
    record { within = omega arith; is = ap (λ (m : ℕ). every m f) (add-one i) ∙ (λ k. e.is k && v k) }

pub passing_all : {f : ℕ → Bool} {n i k : ℕ} → Passing f n i → n ≤ i → n ≡ k → true ≡ every k f
passing_all {f} {n} {i} {k} e h p =
    let same : i ≡ k = omega arith in
    sym e.is ∙ ap (λ (m : ℕ). every m f) same

and_no : (a b : Bool) → b ≡ false → false ≡ a && b
and_no true b e = sym e
and_no false b e = refl

-- one test that fails is enough
pub every_not : (f : ℕ → Bool) (n i : ℕ) → i < n → f i ≡ false → false ≡ every n f
unfolding every
every_not f zero i h v = absurd (not-suc-le-zero h)
every_not f (suc n) i h v =
    ⊎_elim
    (λ e. and_no (every n f) (f n) (ap f (sym e) ∙ v))
    (λ l. ap (λ (b : Bool). b && f n) (every_not f n i l v))
    (eq-or-lt_of_le (le_of_suc-le-suc h))

pub equal-used : (r c : ℕ) (a b : List (List Float)) → equal r c (used r c a) (used r c b) ≡ every r (λ i. every c (λ j. eq (cell a i j) (cell b i j)))
unfolding equal
equal-used r c a b =
    every_ext r (λ i. every c (λ j. eq (cell (used r c a) i j) (cell (used r c b) i j))) (λ i. every c (λ j. eq (cell a i j) (cell b i j)))
    (λ i h. every_ext c (λ j. eq (cell (used r c a) i j) (cell (used r c b) i j)) (λ j. eq (cell a i j) (cell b i j)) (λ j g k. eq (cell-used r c a i j h g k) (cell-used r c b i j h g k)))
