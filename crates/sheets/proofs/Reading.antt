-- The laws of reading digits, one after another: what the code that reads a field cites. Assumes nothing.
use mathlib.Core.Path.{◌≡◌, refl, sym, ◌∙◌}
use mathlib.Core.Bool.{Bool, true, false, not, ◌&&◌, cond}
use mathlib.Core.List.{List, [], ◌∷◌}
use Rattle.std.specs.Prelude.{None, Some}
use Prim.Native.Nat.{ℕ, suc, ◌+◌, ◌-◌, ◌*◌, ◌^◌, ◌≤◌, ◌<◌}
use native.Mathlib.Nat.{zero-mul, mul-one, mul_assoc, add-mul, zero-add, add-zero, one-le-pow, pow-zero, pow-suc, pow-le-pow_right}
use native.Mathlib.Numerals.{add-one}
use native.Mathlib.Omega.{arith}
use lib.Dec.{eqb, leb}
use lib.ListN.{length, drop, get_or, length-drop, drop_of_length-le}
use lib.Seq.{drop-cons}
use borrow.Author.Tests.{eqb-true, eq-eqb, le-leb, leb-true}
use Rattle.sheets.proofs.Verdicts.{and_r}
use Rattle.sheets.specs.Field.{read_field, read_digits, all_digits, decimal, is_digit, leading_zero}

pub skip_space : (f : List ℕ) (i : ℕ) → i < length f → get_or f i 0 ≡ 32 → read_field (drop i f) ≡ read_field (drop (suc i) f)
unfolding read_field
skip_space f i h e = rw (drop-cons f i 0 h, e)

-- digits from i on: not digits where the byte at i is none, and else as those after it
pub bad_digit : (f : List ℕ) (i : ℕ) → i < length f → is_digit (get_or f i 0) ≡ false → all_digits (drop i f) ≡ false
unfolding all_digits
bad_digit f i h e = rw (drop-cons f i 0 h, e)

pub good_digit : (f : List ℕ) (i : ℕ) → i < length f → is_digit (get_or f i 0) ≡ true → all_digits (drop i f) ≡ all_digits (drop (suc i) f)
unfolding all_digits
good_digit f i h e = rw (drop-cons f i 0 h, e)

pub is_digit_lem : (b : ℕ) → 48 ≤ b → b ≤ 57 → is_digit b ≡ true
is_digit_lem b h k = rw (le-leb 48 b h, le-leb b 57 k)

pub digit_small : (b : ℕ) → is_digit b ≡ true → b - 48 ≤ 9
digit_small b e = let h = leb-true b 57 (and_r (leb 48 b) (leb b 57) e) in omega arith

pub decimal_step : (f : List ℕ) (i k : ℕ) → length f ≡ suc (i + k) → decimal (drop i f) ≡ (get_or f i 0 - 48) * 10 ^ k + decimal (drop (suc i) f)
unfolding decimal
decimal_step f i k h =
    let l : i < length f = omega arith in
    let e : length (drop (suc i) f) ≡ k = length-drop (suc i) f ∙ omega arith in
    rw (drop-cons f i 0 l, e)

-- ten times what was read, and one digit more
more : (v d p r : ℕ) → v * (p * 10) + (d * p + r) ≡ (10 * v + d) * p + r
more v d p r =
    let a : v * (p * 10) ≡ v * p * 10 = sym (mul_assoc v p 10) in
    let b : (10 * v + d) * p ≡ 10 * (v * p) + d * p = add-mul (10 * v) d p ∙ rw (mul_assoc 10 v p) in
    omega (arith, a, b)

-- ---- digits, read one after another

-- what reading the digits f says, when those before i are digits and say v
abbrev pub Left : List ℕ → ℕ → ℕ → Type 0
Left f v i = read_digits f ≡ cond (all_digits (drop i f)) (Some (v * 10 ^ (length f - i) + decimal (drop i f))) None

pub zero-first : (b : ℕ) (bs : List ℕ) → (b ≡ 48 → length bs ≡ 0) → leading_zero b bs ≡ false
zero-first b bs h = go (eqb b 48) refl
  where
    go : (t : Bool) → eqb b 48 ≡ t → (t && not (eqb (length bs) 0)) ≡ false
    go true e = rw (eq-eqb (length bs) 0 (h (eqb-true b 48 e)))
    go false e = refl

pub left-start : (f : List ℕ) → 0 < length f → (get_or f 0 0 ≡ 48 → length f ≡ 1) → Left f 0 0
unfolding read_digits
left-start [] h k = absurd (omega arith)
left-start (b ∷ bs) h k = rw (zero-mul, zero-add, zero-first b bs (λ z. let q : suc (length bs) ≡ 1 = k z in omega arith))

pub left_bad : (f : List ℕ) (v i : ℕ) → i < length f → is_digit (get_or f i 0) ≡ false → Left f v i → read_digits f ≡ None
left_bad f v i h e q = q ∙ rw (bad_digit f i h e)

pub left_step : (f : List ℕ) (v i : ℕ) → i < length f → is_digit (get_or f i 0) ≡ true → Left f v i → Left f (10 * v + (get_or f i 0 - 48)) (i + 1)
left_step f v i g e q =
    let k : length f - i ≡ suc (length f - suc i) = omega arith in
    let d : decimal (drop i f) ≡ (get_or f i 0 - 48) * 10 ^ (length f - suc i) + decimal (drop (suc i) f) = decimal_step f i (length f - suc i) (omega arith) in
    q ∙ rw (good_digit f i g e, d, k, pow-suc 10 (length f - suc i), more v (get_or f i 0 - 48) (10 ^ (length f - suc i)) (decimal (drop (suc i) f)), add-one)

pub left_end : (f : List ℕ) (v i : ℕ) → length f ≤ i → Left f v i → read_digits f ≡ Some v
unfolding all_digits decimal
left_end f v i h q =
    let k : length f - i ≡ 0 = omega arith in
    q ∙ rw (drop_of_length-le f h, k, pow-zero 10, mul-one, add-zero)

-- ---- i digits say less than 10 ^ i

pub small-start : (i : ℕ) → 0 < 10 ^ i
small-start i = one-le-pow i 10 (omega arith)

pub small-step : (v d i : ℕ) → v < 10 ^ i → d ≤ 9 → 10 * v + d < 10 ^ (i + 1)
small-step v d i h k = let p : 10 ^ (i + 1) ≡ 10 ^ i * 10 = rw add-one (pow-suc 10 i) in omega (arith, p)

pub small-fits : (v i : ℕ) → v < 10 ^ i → i < 8 → v < 10000000
small-fits v i h k =
    let a : 0 < 10 = omega arith in
    let b : i ≤ 7 = omega arith in
    let p : 10 ^ i ≤ 10 ^ 7 = pow-le-pow_right a b in
    omega (arith, p)
