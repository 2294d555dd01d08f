-- The root of each kind of bit pattern, as the code tells them apart. Assumes nothing.
use mathlib.Core.Path.{◌≡◌, refl, sym, ap, ◌∙◌, subst}
use Prim.Native.Nat.{ℕ, zero, suc, ◌+◌, ◌-◌, ◌*◌, ◌/◌, ◌%◌, ◌^◌, ◌≤◌, ◌<◌}
use native.Mathlib.Nat.{mul_assoc, mul-one, le_of_lt, lt_irrefl, mul-pos, zero-mul, zero-add}
use native.Mathlib.Omega.{arith}
use mathlib.Core.Bool.{Bool, true, false, cond, false≢true}
use lib.Dec.{leb, eqb, le→leb}
use lib.Pow.{pow-add, pow_pos}
use lib.Ieee.{Float, nan, inf, fin, binary64, up, odd, of_fields, of_bits}
use lib.Ieee.Bits.{is_true}
use lib.Ieee.Exact.{HasValue, odd_sign}
use lib.Ieee.Fits.{down_pos}
use Rattle.root.specs.Weights.{hidden, past53, infinity, sign_bit, patterns}
use Rattle.root.specs.Root.{root, root_of}
use Rattle.root.proofs.Patterns.{of_bits_is, at_normal, at_subnormal, root_odd}

-- a positive normal number
pub normal-root : (b : ℕ) → hidden ≤ b → b < infinity
    → root (of_bits binary64 b) ≡ root_of ((hidden + b % hidden) * 2 ^ (b / hidden + 1021 + 52))
normal-root b l h =
    let m = hidden + b % hidden in
    let k = b / hidden - 1 in
    ap (λ (n : ℕ). root (of_bits binary64 n)) (apart b l)
    ∙ ap root (at_normal m k (lead b) (lead_lt b) (field b l h))
    ∙ root_odd m k (lead_pos b)
    ∙ ap root_of (mul_assoc m (2 ^ k) (2 ^ 1074) ∙ ap (λ (x : ℕ). m * x) (sym (pow-add 2 k 1074) ∙ ap (λ (n : ℕ). 2 ^ n) (shifted b l)))
  where
    apart : (b : ℕ) → hidden ≤ b → b ≡ (b / hidden - 1) * hidden + (hidden + b % hidden)
    apart b l = omega arith

    lead : (b : ℕ) → hidden ≤ hidden + b % hidden
    lead b = omega arith

    lead_pos : (b : ℕ) → 0 < hidden + b % hidden
    lead_pos b = omega arith

    lead_lt : (b : ℕ) → hidden + b % hidden < past53
    lead_lt b = omega arith

    field : (b : ℕ) → hidden ≤ b → b < infinity → b / hidden - 1 < 2046
    field b l h = omega arith

    shifted : (b : ℕ) → hidden ≤ b → b / hidden - 1 + 1074 ≡ b / hidden + 1021 + 52
    shifted b l = omega arith

-- a positive subnormal number, at any m * 2 ^ e that it equals in units of 2 ^ -2096
pub subnormal_root : (b m e : ℕ) → 0 < b → b < hidden → m * 2 ^ e ≡ b * 2 ^ 1022 → root (of_bits binary64 b) ≡ root_of (m * 2 ^ (e + 52))
subnormal_root b m e p h q =
    ap root (at_subnormal b h)
    ∙ root_odd b 0 p
    ∙ ap root_of
    (ap (λ (x : ℕ). x * 2 ^ 1074) (mul-one b)
    ∙ sym (mul_assoc b (2 ^ 1022) (2 ^ 52))
    ∙ ap (λ (x : ℕ). x * 2 ^ 52) (sym q)
    ∙ mul_assoc m (2 ^ e) (2 ^ 52)
    ∙ ap (λ (x : ℕ). m * x) (sym (pow-add 2 e 52)))

-- a pattern whose number is its own root: the zeros and +infinity
abbrev pub Same : ℕ → Type 0
Same b = root (of_bits binary64 b) ≡ of_bits binary64 b

pub plus-zero : Same 0
unfolding root of_bits
plus-zero = refl

pub minus-zero : Same sign_bit
unfolding root of_bits
minus-zero = refl

pub infinite : Same infinity
unfolding root of_bits
infinite = refl

pub is_same : {a b : ℕ} → Same a → b ≡ a → Same b
is_same h e = subst Same (sym e) h

-- a value below zero
below-zero : (x : Float) (a c : ℕ) → HasValue x true a c → 0 < a → root x ≡ nan
unfolding root
below-zero nan a c h p = refl
below-zero (inf s) a c h p = absurd h
below-zero (fin false m e) a c h p = absurd (false≢true h.0)
below-zero (fin true zero e) a c h p = absurd (lt_irrefl 0 (subst (λ (y : ℕ). 0 < y) (sym h.1 ∙ ap (λ (y : ℕ). y * c) (zero-mul (up e)) ∙ zero-mul c) (mul-pos p (down_pos e))))
below-zero (fin true (suc m) e) a c h p = refl

odd_nan : (q k : ℕ) → 0 < q → root (odd 53 true q k 1074) ≡ nan
odd_nan q k p = below-zero (odd 53 true q k 1074) (q * 2 ^ k) (2 ^ 1074) (odd_sign 53 true q k 1074) (mul-pos p (pow_pos k))

minus-infinity : root (inf true) ≡ nan
unfolding root
minus-infinity = refl

pub of_nan : root nan ≡ nan
unfolding root
of_nan = refl

cond-root : (t : Bool) (x y : Float) → root x ≡ nan → root y ≡ nan → root (cond t x y) ≡ nan
cond-root true x y h k = h
cond-root false x y h k = k

fields_nan : (x t : ℕ) → 0 < x + t → root (of_fields binary64 true x t) ≡ nan
unfolding of_fields
fields_nan zero t h = odd_nan t 0 (subst (λ (y : ℕ). 0 < y) (zero-add t) h)
fields_nan (suc x) t h =
    cond-root (eqb (suc x) 2047) (cond (eqb t 0) (inf true) nan) (odd 53 true (hidden + t) x 1074) (cond-root (eqb t 0) (inf true) nan minus-infinity of_nan) (odd_nan (hidden + t) x (some t))
  where
    some : (t : ℕ) → 0 < hidden + t
    some t = omega arith

-- below zero
pub negative-root : (b : ℕ) → sign_bit < b → b < patterns → root (of_bits binary64 b) ≡ nan
negative-root b l h =
    ap root (of_bits_is b ∙ ap (λ (s : Bool). of_fields binary64 s (b % sign_bit / hidden) (b % hidden)) (is_true (leb sign_bit b) (le→leb sign_bit b (le_of_lt l))))
    ∙ fields_nan (b % sign_bit / hidden) (b % hidden) (some b l h)
  where
    some : (b : ℕ) → sign_bit < b → b < patterns → 0 < b % sign_bit / hidden + b % hidden
    some b l h = omega arith

-- in an attribute's spelling
pub ruleset normal_roots = (normal-root)
