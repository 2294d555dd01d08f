-- A number that fits is its own rounding, so it stays in a product with 1 and, but for −0, in a sum with +0. Assumes nothing.
use mathlib.Core.Path.{◌≡◌, refl, sym, ap, ◌∙◌, subst}
use Prim.Native.Nat.{ℕ, zero, suc, ◌+◌, ◌-◌, ◌*◌, ◌/◌, ◌%◌, ◌^◌, ◌≤◌, ◌<◌}
use native.Mathlib.Nat.{zero-mul, mul-one, one-mul, mul_assoc, mul_comm, mul_right_comm, mul-pos, zero-add, zero-lt-suc, lt_irrefl, lt_of_lt_of_le, lt_of_not-le, le_of_suc-le-suc, mul-lt-mul_of_pos_right, eq_of_mul-eq-mul_right}
use native.Mathlib.Omega.{arith}
use mathlib.Core.Bool.{Bool, true, false, ◌&&◌, cond}
use lib.IntN.{ℤ, pos, negsuc}
use lib.Dec.{T, eqb, ltb, leb, ltb→lt, leb→le}
use borrow.Author.Tests.{lt-ltb}
use lib.Pow.{pow-add, pow_pos, pow-lt}
use lib.Ieee.{Float, nan, inf, fin, Format, binary64, prec, emax, low, hid, top, up, down, size, round, sum, unlike, fits, of_bits, to_bits}
use lib.Ieee as Ieee
use lib.Ieee.Digits.{back}
use lib.Ieee.Fits.{and_l, and_r, up_pos, down_pos, round-fits}
use lib.Ieee.Bits.{of_bits-to_bits}
use lib.Ieee.Exact.{HasValue, round_exact}
use lib.Ieee.Nearest.{div_same}
use lib.Ieee.Scale.{round_same}
use Rattle.scalar.specs.Number.{◌⊕◌, ◌⊗◌, +0, one}
use Rattle.mixing.specs.Laws.{alone}

-- ---- two numbers that fit and have one value are one
one-bits : (f : Format) (s t : Bool) (m n : ℕ) (d e : ℤ) → s ≡ t → m * up d * 2 ^ low f / down d ≡ n * up e * 2 ^ low f / down e → to_bits f (fin s m d) ≡ to_bits f (fin t n e)
unfolding to_bits
one-bits f s t m n d e p q = λ i. cond (p i) (top f) 0 + (size (q i) - prec f) * hid f + q i / 2 ^ (size (q i) - prec f)

one_value : (f : Format) (x y : Float) (s : Bool) (a c : ℕ) → 0 < c → T (fits f x) → T (fits f y) → HasValue x s a c → HasValue y s a c → x ≡ y
one_value f nan y s a c C p q v w = absurd v
one_value f (inf t) y s a c C p q v w = absurd v
one_value f (fin t m d) nan s a c C p q v w = absurd w
one_value f (fin t m d) (inf u) s a c C p q v w = absurd w
one_value f (fin t m d) (fin u n e) s a c C p q v w =
    let l = 2 ^ low f in
    let cross : m * up d * down e ≡ n * up e * down d =
    eq_of_mul-eq-mul_right c C (m * up d * down e) (n * up e * down d)
    (mul_right_comm (m * up d) (down e) c ∙ ap (λ (z : ℕ). z * down e) v.1 ∙ mul_right_comm a (down d) (down e) ∙ ap (λ (z : ℕ). z * down d) (sym w.1) ∙ mul_right_comm (n * up e) c (down d)) in
    let units : m * up d * l * down e ≡ n * up e * l * down d = mul_right_comm (m * up d) l (down e) ∙ ap (λ (z : ℕ). z * l) cross ∙ mul_right_comm (n * up e) (down d) l in
    let bits = one-bits f t u m n d e (v.0 ∙ sym w.0) (div_same (m * up d * l) (down d) (n * up e * l) (down e) (down_pos d) (down_pos e) units) in
    sym (of_bits-to_bits f (fin t m d) p) ∙ ap (of_bits f) bits ∙ of_bits-to_bits f (fin u n e) q

-- ---- a number that fits is a multiple of the smallest value
pow_le_back : (a l : ℕ) → 2 ^ a ≤ 2 ^ l → a ≤ l
pow_le_back a l h = le_of_suc-le-suc (lt_of_not-le (λ (g : suc l ≤ a). lt_irrefl (2 ^ l) (lt_of_lt_of_le (pow-lt g) h)))

held : (f : Format) (s : Bool) (m : ℕ) (e : ℤ) → m < 2 ^ prec f → down e ≤ 2 ^ low f → m * up e < 2 ^ suc (emax f) * down e → HasValue (round f s (m * up e) (down e)) s (m * up e) (down e)
held f s m (pos k) small fine high =
    let l = low f in
    let is : m * 2 ^ k * 2 ^ l ≡ m * 2 ^ (k + l) = mul_assoc m (2 ^ k) (2 ^ l) ∙ ap (λ (z : ℕ). m * z) (sym (pow-add 2 k l)) in
    let top : 2 ^ suc (emax f) * 2 ^ l ≡ 2 ^ (l + suc (emax f)) = mul_comm (2 ^ suc (emax f)) (2 ^ l) ∙ sym (pow-add 2 l (suc (emax f))) in
    let under : m * 2 ^ k * 2 ^ l < 2 ^ suc (emax f) * 2 ^ l = mul-lt-mul_of_pos_right (subst (λ (z : ℕ). m * 2 ^ k < z) (mul-one (2 ^ suc (emax f))) high) (pow_pos l) in
    round_exact f s (m * 2 ^ k) 1 m (k + l) (zero-lt-suc 0) small
    (subst (λ (z : ℕ). m * 2 ^ (k + l) < z) top (subst (λ (z : ℕ). z < 2 ^ suc (emax f) * 2 ^ l) is under))
    (is ∙ sym (mul-one (m * 2 ^ (k + l))))
held f s m (negsuc k) small fine high =
    let l = low f in
    let j = l - suc k in
    let whole : 2 ^ j * 2 ^ suc k ≡ 2 ^ l = sym (pow-add 2 j (suc k)) ∙ ap (λ (z : ℕ). 2 ^ z) (back l (suc k) (pow_le_back (suc k) l fine)) in
    let is : m * 1 * 2 ^ l ≡ m * 2 ^ j * 2 ^ suc k = ap (λ (z : ℕ). z * 2 ^ l) (mul-one m) ∙ ap (λ (z : ℕ). m * z) (sym whole) ∙ sym (mul_assoc m (2 ^ j) (2 ^ suc k)) in
    let top : 2 ^ suc (emax f) * 2 ^ suc k * 2 ^ j ≡ 2 ^ (l + suc (emax f)) =
    mul_assoc (2 ^ suc (emax f)) (2 ^ suc k) (2 ^ j) ∙ ap (λ (z : ℕ). 2 ^ suc (emax f) * z) (mul_comm (2 ^ suc k) (2 ^ j) ∙ whole) ∙ mul_comm (2 ^ suc (emax f)) (2 ^ l) ∙ sym (pow-add 2 l (suc (emax f))) in
    let under : m * 2 ^ j < 2 ^ suc (emax f) * 2 ^ suc k * 2 ^ j = mul-lt-mul_of_pos_right (subst (λ (z : ℕ). z < 2 ^ suc (emax f) * 2 ^ suc k) (mul-one m) high) (pow_pos j) in
    round_exact f s (m * 1) (2 ^ suc k) m j (pow_pos (suc k)) small (subst (λ (z : ℕ). m * 2 ^ j < z) top under) is

own_value : (f : Format) (s : Bool) (m : ℕ) (e : ℤ) → T (fits f (fin s m e)) → HasValue (round f s (m * up e) (down e)) s (m * up e) (down e)
unfolding fits
own_value f s zero e h =
    round_exact f s (zero * up e) (down e) 0 0 (down_pos e) (pow_pos (prec f)) (pow_pos (low f + suc (emax f))) (ap (λ (z : ℕ). z * 2 ^ low f) (zero-mul (up e)) ∙ zero-mul (2 ^ low f) ∙ sym (zero-mul (down e)))
own_value f s (suc m) e h =
    let A = eqb (suc m % 2) 1 in
    let B = ltb (suc m) (2 ^ prec f) in
    let C = leb (down e) (2 ^ low f) in
    let D = ltb (suc m * up e) (2 ^ suc (emax f) * down e) in
    held f s (suc m) e
    (ltb→lt (suc m) (2 ^ prec f) (and_r A B (and_l (A && B) C (and_l (A && B && C) D h))))
    (leb→le (down e) (2 ^ low f) (and_r (A && B) C (and_l (A && B && C) D h)))
    (ltb→lt (suc m * up e) (2 ^ suc (emax f) * down e) (and_r (A && B && C) D h))

-- so it is its own rounding
own_rounding : (f : Format) (s : Bool) (m : ℕ) (e : ℤ) → T (fits f (fin s m e)) → round f s (m * up e) (down e) ≡ fin s m e
own_rounding f s m e h = one_value f (round f s (m * up e) (down e)) (fin s m e) s (m * up e) (down e) (down_pos e) (round-fits f s (m * up e) (down e)) h (own_value f s m e h) (refl, refl)

-- ---- 1 and +0 as they compute
one_is : one ≡ fin false 1 (pos 0)
unfolding of_bits
one_is = refl

zero_is : +0 ≡ fin false 0 (pos 0)
unfolding of_bits
zero_is = refl

-- ---- times 1
unlike_plus : (s : Bool) → unlike s false ≡ s
unlike_plus true = refl
unlike_plus false = refl

times-unit : (f : Format) (x : Float) → T (fits f x) → Ieee.mul f x (fin false 1 (pos 0)) ≡ x
unfolding Ieee.mul
times-unit f nan h = refl
times-unit f (inf s) h = ap inf (unlike_plus s)
times-unit f (fin s m e) h =
    (λ i. round f (unlike_plus s i) (mul-one (m * up e) i) (mul-one (down e) i)) ∙ own_rounding f s m e h

-- ---- +0 and a number
zero-fits : (f : Format) → T (fits f (fin false 0 (pos 0)))
unfolding fits
zero-fits f = tt

from_zero : (f : Format) (t : Bool) (n : ℕ) (d : ℤ) → T (fits f (fin t n d)) → sum f false 0 t (n * up d) (down d) ≡ alone (fin t n d)
unfolding sum alone
from_zero f false n d h = ap (λ (z : ℕ). round f false z (down d)) (zero-add (n * up d)) ∙ own_rounding f false n d h
from_zero f true zero d h =
    let none = zero-mul (up d) in
    (λ i. cond (ltb 0 (none i)) (round f true (none i - 0) (down d)) (round f (false && ltb (none i) 0) (0 - none i) (down d)))
    ∙ round_same f false 0 (down d) 0 1 (down_pos d) (zero-lt-suc 0) (zero-mul 1 ∙ sym (zero-mul (down d)))
    ∙ own_rounding f false 0 (pos 0) (zero-fits f)
    ∙ sym zero_is
from_zero f true (suc n) d h =
    (λ i. cond (lt-ltb 0 (suc n * up d) (mul-pos (zero-lt-suc n) (up_pos d)) i) (round f true (suc n * up d - 0) (down d)) (round f (false && ltb (suc n * up d) 0) (0 - suc n * up d) (down d)))
    ∙ ap (λ (z : ℕ). round f true z (down d)) (omega arith)
    ∙ own_rounding f true (suc n) d h

zero-plus : (f : Format) (x : Float) → T (fits f x) → Ieee.add f (fin false 0 (pos 0)) x ≡ alone x
unfolding Ieee.add alone
zero-plus f nan h = refl
zero-plus f (inf t) h = refl
zero-plus f (fin t n d) h =
    (λ i. sum f false (zero-mul (down d) i) t (mul-one (n * up d) i) (one-mul (down d) i)) ∙ from_zero f t n d h

-- a term of weight 1, summed from +0
pub term-kept : (x : Float) → T (fits binary64 x) → +0 ⊕ x ⊗ one ≡ alone x
term-kept x h =
    ap (λ (y : Float). +0 ⊕ y) (ap (λ (y : Float). x ⊗ y) one_is ∙ times-unit binary64 x h)
    ∙ ap (λ (y : Float). y ⊕ x) zero_is
    ∙ zero-plus binary64 x h
