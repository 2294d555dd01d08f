-- The whole square root: `isqrt` is the largest number whose square is at most a, there is one such number, and twice the nearest root is off by at most one. Assumes nothing.
use mathlib.Core.Path.{◌≡◌, refl, subst}
use Prim.Native.Nat.{ℕ, zero, suc, ◌+◌, ◌*◌, ◌/◌, ◌%◌, ◌^◌, ◌≤◌, ◌<◌}
use native.Mathlib.Nat.{lt_of_lt_of_le, lt_of_le_of_lt, lt_of_not-le, lt_irrefl, le_of_lt, le_antisymm, le_of_suc-le-suc, mul-le-mul, pow-suc, div-lt_iff_lt-mul, zero-lt-suc}
use mathlib.Core.Logic.{◌⊎◌, inl, inr}
use native.Mathlib.Omega.{arith}
use mathlib.Core.Bool.{Bool, true, false, not, cond}
use lib.Dec.{T, ltb, ltb→lt, nltb→le}
use Rattle.root.specs.Root.{isqrt, nearest_root}

abbrev pub IsRoot : ℕ → ℕ → Type 0
IsRoot a s = (s * s ≤ a) × (a < (s + 1) * (s + 1))

pub isqrt_is : (d a : ℕ) → a < 4 ^ d → IsRoot a (isqrt d a)
unfolding isqrt
isqrt_is zero a h = (omega arith, h)
isqrt_is (suc d) a h =
    go (isqrt d (a / 4)) (isqrt_is d (a / 4) ((div-lt_iff_lt-mul (zero-lt-suc 3)).1 (subst (λ (x : ℕ). a < x) (pow-suc 4 d) h)))
  where
    pick : (t : ℕ) → IsRoot (a / 4) t → (b : Bool) → (T b → a < (2 * t + 1) * (2 * t + 1)) → (T (not b) → (2 * t + 1) * (2 * t + 1) ≤ a) → IsRoot a (cond b (2 * t) (2 * t + 1))
    pick t r true y n = let l = y tt in (omega arith, l)
    pick t r false y n = let l = n tt in (l, omega arith)

    go : (t : ℕ) → IsRoot (a / 4) t → IsRoot a (cond (ltb a ((2 * t + 1) * (2 * t + 1))) (2 * t) (2 * t + 1))
    go t r = pick t r (ltb a ((2 * t + 1) * (2 * t + 1))) (ltb→lt a ((2 * t + 1) * (2 * t + 1))) (nltb→le a ((2 * t + 1) * (2 * t + 1)))

-- s * s < (t + 1) * (t + 1) only for an s up to t
pub square_le : (s t : ℕ) → s * s < (t + 1) * (t + 1) → s ≤ t
square_le s t h = le_of_suc-le-suc (lt_of_not-le (λ (g : suc t ≤ s). lt_irrefl (s * s) (lt_of_lt_of_le h (mul-le-mul (up g) (up g)))))
  where
    up : suc t ≤ s → t + 1 ≤ s
    up g = omega arith

pub only : (a s t : ℕ) → IsRoot a s → IsRoot a t → s ≡ t
only a s t p q = le_antisymm (square_le s t (lt_of_le_of_lt p.0 q.1)) (square_le t s (lt_of_le_of_lt q.0 p.1))

-- from a remainder
pub isqrt_of : (d a s r : ℕ) → a < 4 ^ d → s * s + r ≡ a → r ≤ s + s → s ≡ isqrt d a
isqrt_of d a s r h e l = only a s (isqrt d a) (omega arith, omega arith) (isqrt_is d a h)

-- ---- the nearest root: q = (s + 1) / 2, for the whole root s of 4 * a, so s is 2 * q or 2 * q - 1
parity : (s q : ℕ) → q ≡ (s + 1) / 2 → (s ≡ q + q) ⊎ (s + 1 ≡ q + q)
parity s q e = go ((s + 1) % 2) refl
  where
    go : (b : ℕ) → (s + 1) % 2 ≡ b → (s ≡ q + q) ⊎ (s + 1 ≡ q + q)
    go zero h = inr (omega arith)
    go (suc b) h = inl (omega arith)

pub near_low : (a s v : ℕ) → IsRoot (a * 4) s → v + 1 ≡ (s + 1) / 2 → (v + (v + 1)) * (v + (v + 1)) < a * 4
near_low a s v r e = elim (parity s (v + 1) e) [ inl h ↦ at_even (subst (λ (x : ℕ). x * x ≤ a * 4) h r.0) | inr h ↦ at_odd (subst (λ (x : ℕ). x * x ≤ a * 4) (back h) r.0) ]
  where
    back : s + 1 ≡ v + 1 + (v + 1) → s ≡ v + (v + 1)
    back h = omega arith

    at_even : (v + 1 + (v + 1)) * (v + 1 + (v + 1)) ≤ a * 4 → (v + (v + 1)) * (v + (v + 1)) < a * 4
    at_even h = omega arith

    at_odd : (v + (v + 1)) * (v + (v + 1)) ≤ a * 4 → (v + (v + 1)) * (v + (v + 1)) < a * 4
    at_odd h = omega arith

pub near_high : (a s q : ℕ) → IsRoot (a * 4) s → q ≡ (s + 1) / 2 → a * 4 < (q + (q + 1)) * (q + (q + 1))
near_high a s q r e = elim (parity s q e) [ inl h ↦ at_even (subst (λ (x : ℕ). a * 4 < (x + 1) * (x + 1)) h r.1) | inr h ↦ at_odd (subst (λ (x : ℕ). a * 4 < x * x) h r.1) ]
  where
    at_even : a * 4 < (q + q + 1) * (q + q + 1) → a * 4 < (q + (q + 1)) * (q + (q + 1))
    at_even h = omega arith

    at_odd : a * 4 < (q + q) * (q + q) → a * 4 < (q + (q + 1)) * (q + (q + 1))
    at_odd h = omega arith

-- and the other way: a q with -q < a - q * q ≤ q is the nearest root
pub nearest_of : (a q : ℕ) → a < 4 ^ 53 → q * q < a + q → a ≤ q * q + q → nearest_root a ≡ q
unfolding nearest_root
nearest_of a zero h lo hi = absurd (none a lo hi)
  where
    none : (a : ℕ) → 0 * 0 < a + 0 → a ≤ 0 * 0 + 0 → ⊥
    none a lo hi = omega arith
nearest_of a (suc v) h lo hi =
    let s = isqrt 54 (a * 4) in
    let r = isqrt_is 54 (a * 4) (omega arith) in
    half s v (square_le (v + suc v) s (lt_of_lt_of_le (below a v lo) (le_of_lt r.1))) (square_le s (suc v + suc v) (lt_of_le_of_lt r.0 (above a v hi)))
  where
    below : (a v : ℕ) → suc v * suc v < a + suc v → (v + suc v) * (v + suc v) < a * 4
    below a v lo = omega arith

    above : (a v : ℕ) → a ≤ suc v * suc v + suc v → a * 4 < (suc v + suc v + 1) * (suc v + suc v + 1)
    above a v hi = omega arith

    half : (s v : ℕ) → v + suc v ≤ s → s ≤ suc v + suc v → (s + 1) / 2 ≡ suc v
    half s v lo hi = omega arith
