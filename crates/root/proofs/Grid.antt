-- The positive values of binary64 in the order of their bit patterns: a pattern k * 2 ^ 52 + q, with q of 53 digits, is q * 2 ^ k units of 2 ^ -1074, and the pattern after it is (q + 1) * 2 ^ k. Assumes nothing.
use mathlib.Core.Path.{◌≡◌, sym, ap, ◌∙◌, subst}
use mathlib.Core.Logic.{◌⊎◌, inl, inr}
use Prim.Native.Nat.{ℕ, zero, suc, ◌+◌, ◌-◌, ◌*◌, ◌/◌, ◌%◌, ◌^◌, ◌≤◌, ◌<◌}
use native.Mathlib.Nat.{lt_of_not-le, le-add_right, add-zero, add-sub_of_le, le_trans, le_refl, le_of_eq, le_of_lt, eq-or-lt_of_le, mul-one, mul_assoc, mul-le-mul_right, pow-succ'}
use native.Mathlib.Numerals.{add-one}
use native.Mathlib.Omega.{arith}
use mathlib.Core.Bool.{Bool, true, false, not, cond, true≢false}
use lib.Dec.{T, leb, eqb, leb→le, nleb→lt, le→leb, lit<}
use lib.Ieee.{Float, nan, inf, fin, binary64, odd, of_fields, of_bits, to_bits, fits}
use lib.Ieee.Bits.{of_bits-to_bits, to_bits-of_bits, nan_bits_is, is_true}
use lib.Ieee.Exact.{HasValue, odd_sign}
use lib.Ieee.Positive.{positive}
use Rattle.root.specs.Weights.{hidden, past53, infinity, sign_bit}
use Rattle.root.specs.Root.{as_whole}
use Rattle.root.proofs.Patterns.{of_bits_is, at_normal, at_subnormal, at_top, as_whole_odd, plain-bits}

-- the number of units that a pattern stands for
abbrev pub val : ℕ → ℕ
val b = as_whole (of_bits binary64 b)

pub val-normal : (q k : ℕ) → hidden ≤ q → q < past53 → k < 2046 → val (k * hidden + q) ≡ q * 2 ^ k
val-normal q k l h g = ap as_whole (at_normal q k l h g) ∙ as_whole_odd false q k

pub val_subnormal : (b : ℕ) → b < hidden → val b ≡ b
val_subnormal b h = ap as_whole (at_subnormal b h) ∙ as_whole_odd false b 0 ∙ mul-one b

-- the next pattern, also where the field grows
pub val-next : (q k : ℕ) → hidden ≤ q → q < past53 → k * hidden + q + 1 < infinity → val (k * hidden + q + 1) ≡ (q + 1) * 2 ^ k
val-next q k l h g = elim (eq-or-lt_of_le h) [
  | inl e ↦
      ap val (carry q k e)
      ∙ val-normal hidden (k + 1) (le_refl hidden) (omega arith) (omega arith)
      ∙ ap (λ (x : ℕ). hidden * x) (ap (λ (n : ℕ). 2 ^ n) (add-one k) ∙ pow-succ' 2 k)
      ∙ sym (mul_assoc hidden 2 (2 ^ k))
      ∙ ap (λ (x : ℕ). x * 2 ^ k) (sym e ∙ sym (add-one q))
  | inr m ↦ ap val (plus q k) ∙ val-normal (q + 1) k (omega arith) (omega arith) (omega arith)
]
  where
    carry : (q k : ℕ) → suc q ≡ past53 → k * hidden + q + 1 ≡ (k + 1) * hidden + hidden
    carry q k e = omega arith

    plus : (q k : ℕ) → k * hidden + q + 1 ≡ k * hidden + (q + 1)
    plus q k = omega arith

-- ---- which patterns are those of positive values
not_negative : (x : Float) (a c : ℕ) → HasValue x true a c → T (positive x) → ⊥
not_negative nan a c h p = p
not_negative (inf s) a c h p = p
not_negative (fin true m e) a c h p = p
not_negative (fin false m e) a c h p = true≢false (sym h.0)

neither : (t : Bool) (x y : Float) → (T (positive x) → ⊥) → (T (positive y) → ⊥) → T (positive (cond t x y)) → ⊥
neither true x y h k p = h p
neither false x y h k p = k p

fields-negative : (x t : ℕ) → T (positive (of_fields binary64 true x t)) → ⊥
unfolding of_fields
fields-negative zero t p = not_negative (odd 53 true t 0 1074) (t * 2 ^ 0) (2 ^ 1074) (odd_sign 53 true t 0 1074) p
fields-negative (suc x) t p =
    neither (eqb (suc x) 2047) (cond (eqb t 0) (inf true) nan) (odd 53 true (hidden + t) x 1074) (neither (eqb t 0) (inf true) nan (λ u. u) (λ u. u))
    (not_negative (odd 53 true (hidden + t) x 1074) ((hidden + t) * 2 ^ x) (2 ^ 1074) (odd_sign 53 true (hidden + t) x 1074)) p

sign_clear : (b : ℕ) → T (positive (of_bits binary64 b)) → sign_bit ≤ b → ⊥
sign_clear b p l =
    fields-negative (b % sign_bit / hidden) (b % hidden)
    (subst (λ (x : Float). T (positive x)) (of_bits_is b ∙ ap (λ (s : Bool). of_fields binary64 s (b % sign_bit / hidden) (b % hidden)) (is_true (leb sign_bit b) (le→leb sign_bit b l))) p)

not_top : (b : ℕ) → T (positive (of_bits binary64 b)) → b < sign_bit → infinity ≤ b → ⊥
not_top b p h l = neither (eqb (b % hidden) 0) (inf false) nan (λ u. u) (λ u. u) (subst (λ (x : Float). T (positive x)) (at_top b l h) p)

not_zero : T (positive (of_bits binary64 0)) → ⊥
unfolding of_bits
not_zero p = p

pub positive-range : (b : ℕ) → T (positive (of_bits binary64 b)) → (0 < b) × (b < infinity)
positive-range b p =
    let h : b < sign_bit = lt_of_not-le (sign_clear b p) in
    (some b (λ (e : b ≡ 0). not_zero (subst (λ (n : ℕ). T (positive (of_bits binary64 n))) e p)), lt_of_not-le (not_top b p h))
  where
    some : (b : ℕ) → (b ≡ 0 → ⊥) → 0 < b
    some b n = omega arith

-- a positive value's bits
pub bits_range : (x : Float) → T (fits binary64 x) → T (positive x) → (0 < to_bits binary64 x) × (to_bits binary64 x < infinity)
bits_range x h p = positive-range (to_bits binary64 x) (subst (λ (y : Float). T (positive y)) (sym (of_bits-to_bits binary64 x h)) p)

-- reading a pattern that is no NaN's, and writing it, gives it back
pub bits_back : (b : ℕ) → b ≤ infinity → to_bits binary64 (of_bits binary64 b) ≡ b
bits_back b h = to_bits-of_bits binary64 b (omega arith) (subst (λ (t : Bool). T (not t)) (nan_bits_is binary64 b) (plain-bits b (omega arith)))

-- ---- a larger pattern is a larger number
val-step : (b : ℕ) → b + 1 < infinity → val b ≤ val (b + 1)
val-step b h = elim (under (b + 1)) [
  | inl s ↦ le_trans (le_of_eq (val_subnormal b (omega arith))) (le_trans (le-add_right b 1) (le_of_eq (sym (val_subnormal (b + 1) s))))
  | inr g ↦ elim (under b) [
    | inl s ↦ le_trans (le_of_eq (val_subnormal b s)) (le_trans (le_of_lt s) (le_of_eq (sym (ap val (edge b s g) ∙ val-normal hidden 0 (le_refl hidden) (lit< tt) (lit< tt)))))
    | inr n ↦
        let q = hidden + b % hidden in
        let k = b / hidden - 1 in
        le_trans (le_of_eq (ap val (apart b n) ∙ val-normal q k (omega arith) (omega arith) (omega arith)))
        (le_trans (mul-le-mul_right (2 ^ k) (le-add_right q 1)) (le_of_eq (sym (ap (λ (x : ℕ). val (x + 1)) (apart b n) ∙ val-next q k (omega arith) (omega arith) (omega arith)))))
  ]
]
  where
    under : (n : ℕ) → (n < hidden) ⊎ (hidden ≤ n)
    under n = go (leb hidden n) (leb→le hidden n) (nleb→lt hidden n)
      where
        go : (t : Bool) → (T t → hidden ≤ n) → (T (not t) → n < hidden) → (n < hidden) ⊎ (hidden ≤ n)
        go true y z = inr (y tt)
        go false y z = inl (z tt)

    edge : (b : ℕ) → b < hidden → hidden ≤ b + 1 → b + 1 ≡ 0 * hidden + hidden
    edge b s g = omega arith

    apart : (b : ℕ) → hidden ≤ b → b ≡ (b / hidden - 1) * hidden + (hidden + b % hidden)
    apart b l = omega arith

val_up : (b d : ℕ) → b + d < infinity → val b ≤ val (b + d)
val_up b zero h = le_of_eq (ap val (sym (add-zero b)))
val_up b (suc d) h = le_trans (val_up b d (omega arith)) (le_trans (val-step (b + d) (omega arith)) (le_of_eq (ap val (last b d))))
  where
    last : (b d : ℕ) → b + d + 1 ≡ b + suc d
    last b d = omega arith

pub val_mono : (b c : ℕ) → b ≤ c → c < infinity → val b ≤ val c
val_mono b c h k = subst (λ (n : ℕ). val b ≤ val n) (add-sub_of_le h) (val_up b (c - b) (omega arith))
