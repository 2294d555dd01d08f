-- The bit patterns of binary64, and the root of each kind of pattern. Assumes nothing.
use mathlib.Core.Path.{◌≡◌, refl, sym, ap, ◌∙◌, subst}
use Prim.Native.Nat.{ℕ, zero, suc, ◌+◌, ◌-◌, ◌*◌, ◌/◌, ◌%◌, ◌^◌, ◌≤◌, ◌<◌}
use native.Mathlib.Nat.{not-le_of_lt, mod-eq_of_lt, mul-div_cancel, mul-pos}
use native.Mathlib.Omega.{arith}
use mathlib.Core.Bool.{Bool, true, false, not, cond, true≢false}
use lib.Dec.{T, leb, eqb, leb→le, eqb→eq, not_T}
use lib.Pow.{pow_pos}
use lib.Ieee.{Float, nan, inf, fin, binary64, down, odd, of_fields, of_bits, to_bits, fits, nan_bits, ne, is_nan}
use lib.Ieee.Compare.{nan_differs}
use lib.Ieee.Bits.{is_false, cond_no, of_bits-to_bits, nan_bits_is, nan_bits_above}
use lib.Ieee.Digits.{Equals, odd_val}
use lib.Ieee.Exact.{odd_sign}
use lib.Ieee.Fits.{down_pos}
use lib.Ieee.Positive.{positive, positive_of_value}
use borrow.Author.Tests.{le-ltb, ltb-false}
use Rattle.root.specs.Weights.{hidden, past53, infinity, sign_bit}
use Rattle.root.specs.Root.{root, root_of, as_whole}

pub of_bits_is : (b : ℕ) → of_bits binary64 b ≡ of_fields binary64 (leb sign_bit b) (b % sign_bit / hidden) (b % hidden)
unfolding of_bits
of_bits_is b = refl

clear : (b : ℕ) → b < sign_bit → leb sign_bit b ≡ false
clear b h = is_false (leb sign_bit b) (not_T (leb sign_bit b) (λ (u : T (leb sign_bit b)). not-le_of_lt h (leb→le sign_bit b u)))

-- a pattern with the sign clear, by its fields
plain : (b x t : ℕ) → b < sign_bit → b / hidden ≡ x → b % hidden ≡ t → of_bits binary64 b ≡ of_fields binary64 false x t
plain b x t h e f =
    of_bits_is b
    ∙ ap (λ (s : Bool). of_fields binary64 s (b % sign_bit / hidden) (b % hidden)) (clear b h)
    ∙ ap (λ (y : ℕ). of_fields binary64 false (y / hidden) (b % hidden)) (mod-eq_of_lt h)
    ∙ ap (λ (y : ℕ). of_fields binary64 false y (b % hidden)) e
    ∙ ap (λ (y : ℕ). of_fields binary64 false x y) f

under_ones : (t x : ℕ) → suc x < 2047 → of_fields binary64 false (suc x) t ≡ odd 53 false (hidden + t) x 1074
unfolding of_fields
under_ones t x h =
    cond_no (eqb (suc x) 2047) (cond (eqb t 0) (inf false) nan) (odd 53 false (hidden + t) x 1074) (not_T (eqb (suc x) 2047) (λ (u : T (eqb (suc x) 2047)). differ x h (eqb→eq (suc x) 2047 u)))
  where
    differ : (x : ℕ) → suc x < 2047 → suc x ≡ 2047 → ⊥
    differ x h e = omega arith

-- ---- a normal value: q has 53 digits
pub at_normal : (q k : ℕ) → hidden ≤ q → q < past53 → k < 2046 → of_bits binary64 (k * hidden + q) ≡ odd 53 false q k 1074
at_normal q k l h g =
    plain (k * hidden + q) (suc k) (q - hidden) (omega arith) (omega arith) (omega arith)
    ∙ under_ones (q - hidden) k (omega arith)
    ∙ ap (λ (y : ℕ). odd 53 false y k 1074) (lead q l)
  where
    lead : (q : ℕ) → hidden ≤ q → hidden + (q - hidden) ≡ q
    lead q l = omega arith

-- ---- a subnormal value
field-zero : (t : ℕ) → of_fields binary64 false 0 t ≡ odd 53 false t 0 1074
unfolding of_fields
field-zero t = refl

pub at_subnormal : (b : ℕ) → b < hidden → of_bits binary64 b ≡ odd 53 false b 0 1074
at_subnormal b h = plain b 0 b (omega arith) (omega arith) (omega arith) ∙ field-zero b

-- ---- the highest field: an infinity or a NaN
field_top : (t : ℕ) → of_fields binary64 false 2047 t ≡ cond (eqb t 0) (inf false) nan
unfolding of_fields
field_top t = refl

pub at_top : (b : ℕ) → infinity ≤ b → b < sign_bit → of_bits binary64 b ≡ cond (eqb (b % hidden) 0) (inf false) nan
at_top b l h = plain b 2047 (b % hidden) h (omega arith) refl ∙ field_top (b % hidden)

-- ---- the root of a positive value
pub as_whole_of : (x : Float) (a : ℕ) → Equals x a (2 ^ 1074) → as_whole x ≡ a
unfolding as_whole
as_whole_of nan a h = absurd h
as_whole_of (inf s) a h = absurd h
as_whole_of (fin s m e) a h = ap (λ (y : ℕ). y / down e) h ∙ mul-div_cancel a (down_pos e)

pub as_whole_odd : (s : Bool) (q k : ℕ) → as_whole (odd 53 s q k 1074) ≡ q * 2 ^ k
as_whole_odd s q k = as_whole_of (odd 53 s q k 1074) (q * 2 ^ k) (odd_val 53 s q k 1074)

pub positive_odd : (q k : ℕ) → 0 < q → T (positive (odd 53 false q k 1074))
positive_odd q k h = positive_of_value (odd 53 false q k 1074) (q * 2 ^ k) (2 ^ 1074) (odd_sign 53 false q k 1074) (mul-pos h (pow_pos k))

pub root-positive : (x : Float) → T (positive x) → root x ≡ root_of (as_whole x * 2 ^ 1074)
unfolding root
root-positive nan p = absurd p
root-positive (inf s) p = absurd p
root-positive (fin true m e) p = absurd p
root-positive (fin false zero e) p = absurd p
root-positive (fin false (suc m) e) p = refl

pub root_odd : (q k : ℕ) → 0 < q → root (odd 53 false q k 1074) ≡ root_of (q * 2 ^ k * 2 ^ 1074)
root_odd q k h = root-positive (odd 53 false q k 1074) (positive_odd q k h) ∙ ap (λ (n : ℕ). root_of (n * 2 ^ 1074)) (as_whole_odd false q k)

-- ---- a value that equals itself is no NaN
pub itself : (x : Float) → ne x x ≡ false → T (not (is_nan x))
unfolding is_nan
itself nan h = absurd (true≢false (sym nan_differs ∙ h))
itself (inf s) h = tt
itself (fin s m e) h = tt

-- its bits without the sign are at most those of an infinity
pub up_to : (x : Float) → T (fits binary64 x) → is_nan x ≡ false → to_bits binary64 x % sign_bit ≤ infinity
up_to x h n =
    ltb-false infinity (to_bits binary64 x % sign_bit)
    (sym (nan_bits_above binary64 (to_bits binary64 x)) ∙ nan_bits_is binary64 (to_bits binary64 x) ∙ ap is_nan (of_bits-to_bits binary64 x h) ∙ n)

-- and bits that are not above these are no NaN's
pub plain-bits : (b : ℕ) → b % sign_bit ≤ infinity → T (not (nan_bits binary64 b))
plain-bits b h = subst (λ (t : Bool). T (not t)) (sym (nan_bits_above binary64 b ∙ le-ltb infinity (b % sign_bit) h)) tt

-- in an attribute's spelling
pub ruleset no_nan = (plain-bits)
