-- `root_of` at m * 2 ^ (e + 52), for an m of 53 digits: the root is that of m * 2 ^ 52 or m * 2 ^ 53, by whether e is even. Assumes nothing.
use mathlib.Core.Path.{◌≡◌, refl, sym, ap, ◌∙◌, subst}
use Prim.Native.Nat.{ℕ, zero, suc, ◌+◌, ◌-◌, ◌*◌, ◌/◌, ◌%◌, ◌^◌, ◌≤◌, ◌<◌}
use native.Mathlib.Nat.{le_antisymm, le_trans, le_of_eq, lt_of_not-le, lt_irrefl, lt_of_lt_of_le, lt_of_le_of_lt, mul_assoc, mul-div_cancel, mul-le-mul_right, pow-suc}
use native.Mathlib.Omega.{arith}
use mathlib.Core.Bool.{false}
use mathlib.Core.Logic.{◌⊎◌, inl, inr}
use lib.Dec.{lit<}
use lib.Pow.{pow-add, pow_pos, pow_mono, shl_lt}
use lib.Ieee.{size, odd}
use lib.Ieee.Digits.{size-lt, size-le}
use Rattle.root.specs.Weights.{hidden, past53, past54}
use Rattle.root.specs.Root.{root_of, isqrt, nearest_root}
use Rattle.root.proofs.Whole.{IsRoot, isqrt_is, square_le}

pub pow_lt_back : (i p : ℕ) → 2 ^ i < 2 ^ p → i < p
pow_lt_back i p h = lt_of_not-le (λ (g : p ≤ i). lt_irrefl (2 ^ i) (lt_of_lt_of_le h (pow_mono g)))

size_exact : (a n : ℕ) → 2 ^ a ≤ n → n < 2 ^ suc a → size n ≡ suc a
size_exact a n lo hi = le_antisymm (size-le n (suc a) hi) (pow_lt_back a (size n) (lt_of_le_of_lt lo (size-lt n)))

pub four-pow : (k : ℕ) → 4 ^ k ≡ 2 ^ (k + k)
four-pow zero = refl
four-pow (suc k) = pow-suc 4 k ∙ ap (λ (x : ℕ). x * 4) (four-pow k) ∙ sym (pow-add 2 (k + k) 2) ∙ ap (λ (n : ℕ). 2 ^ n) (step k)
  where
    step : (k : ℕ) → k + k + 2 ≡ suc k + suc k
    step k = omega arith

-- the 105 or 106 leading digits
abbrev pub lead : ℕ → ℕ → ℕ
lead m e = m * 2 ^ (52 + e % 2)

-- from 2 ^ 106 to 4 * (2 ^ 53 - 1) * 2 ^ 53
abbrev pub Bounds : ℕ → Type 0
Bounds a4 = ((2 ^ 106) ≤ a4) × (a4 ≤ (2 ^ 108 - 2 ^ 55))

parity : (e : ℕ) → (e % 2 ≡ 0) ⊎ (e % 2 ≡ 1)
parity e = go (e % 2) refl
  where
    go : (b : ℕ) → e % 2 ≡ b → (e % 2 ≡ 0) ⊎ (e % 2 ≡ 1)
    go zero h = inl h
    go (suc b) h = inr (omega arith)

module _ (m e : ℕ) (lo : hidden ≤ m) (hi : m < past53) where
  size_is : size (m * 2 ^ (e + 52)) ≡ e + 105
  size_is =
      size_exact (52 + (e + 52)) (m * 2 ^ (e + 52)) (le_trans (le_of_eq (pow-add 2 52 (e + 52))) (mul-le-mul_right (2 ^ (e + 52)) lo)) (subst (λ (n : ℕ). m * 2 ^ (e + 52) < 2 ^ n) (next e) (shl_lt 53 (e + 52) hi))
      ∙ count e
    where
      next : (e : ℕ) → 53 + (e + 52) ≡ suc (52 + (e + 52))
      next e = omega arith

      count : (e : ℕ) → suc (52 + (e + 52)) ≡ e + 105
      count e = omega arith

  pub split : m * 2 ^ (e + 52) ≡ lead m e * 4 ^ (e / 2)
  split =
      ap (λ (n : ℕ). m * 2 ^ n) (parts e)
      ∙ ap (λ (x : ℕ). m * x) (pow-add 2 (52 + e % 2) (e / 2 + e / 2) ∙ ap (λ (x : ℕ). 2 ^ (52 + e % 2) * x) (sym (four-pow (e / 2))))
      ∙ sym (mul_assoc m (2 ^ (52 + e % 2)) (4 ^ (e / 2)))
    where
      parts : (e : ℕ) → e + 52 ≡ 52 + e % 2 + (e / 2 + e / 2)
      parts e = omega arith

  pub root_of_at : root_of (m * 2 ^ (e + 52)) ≡ odd 53 false (nearest_root (lead m e)) (e / 2) 1074
  unfolding root_of
  root_of_at =
      ap (λ (k : ℕ). odd 53 false (nearest_root (m * 2 ^ (e + 52) / 4 ^ k)) k 1074) (ap (λ (z : ℕ). (z - 105) / 2) size_is ∙ same e)
      ∙ ap (λ (a : ℕ). odd 53 false (nearest_root a) (e / 2) 1074) (ap (λ (w : ℕ). w / 4 ^ (e / 2)) split ∙ mul-div_cancel (lead m e) (four_pos (e / 2)))
    where
      same : (e : ℕ) → (e + 105 - 105) / 2 ≡ e / 2
      same e = omega arith

      four_pos : (k : ℕ) → 0 < 4 ^ k
      four_pos k = subst (λ (x : ℕ). 0 < x) (sym (four-pow k)) (pow_pos (k + k))

  -- four times the leading digits, as the code has them, and their bounds
  pub lead-code : lead m e * 4 ≡ m * (1 + e % 2) * past54
  lead-code = elim (parity e) [ inl h ↦ subst Code (sym h) (omega arith) | inr h ↦ subst Code (sym h) (omega arith) ]
    where
      Code : ℕ → Type 0
      Code b = m * 2 ^ (52 + b) * 4 ≡ m * (1 + b) * past54

  pub lead-bounds : Bounds (lead m e * 4)
  lead-bounds = elim (parity e) [
    | inl h ↦ subst (λ (b : ℕ). Bounds (m * 2 ^ (52 + b) * 4)) (sym h) (omega arith, omega arith)
    | inr h ↦ subst (λ (b : ℕ). Bounds (m * 2 ^ (52 + b) * 4)) (sym h) (omega arith, omega arith)
  ]

-- ---- the root of 4 * a has 54 digits, and is not the largest such number: so rounding up stays within 53
pub root_of_lem : (a4 : ℕ) → Bounds a4 → IsRoot a4 (isqrt 54 a4)
root_of_lem a4 b = isqrt_is 54 a4 (lt_of_le_of_lt b.1 (lit< tt))

pub root-bounds : (a4 : ℕ) → Bounds a4 → (past53 ≤ isqrt 54 a4) × (isqrt 54 a4 ≤ (past54 - 2))
root-bounds a4 b =
    let r = root_of_lem a4 b in
    (square_le past53 (isqrt 54 a4) (lt_of_le_of_lt b.0 r.1), square_le (isqrt 54 a4) (past54 - 2) (lt_of_le_of_lt (le_trans r.0 b.1) (lit< tt)))

-- ---- as the code has it: s is the whole root
module _ (m e : ℕ) (lo : hidden ≤ m) (hi : m < past53) (s : ℕ) (is : s ≡ isqrt 54 (m * (1 + e % 2) * past54)) where
  is_lead : s ≡ isqrt 54 (lead m e * 4)
  is_lead = is ∙ ap (isqrt 54) (sym (lead-code m e lo hi))

  pub code-bounds : (past53 ≤ s) × (s ≤ past54 - 2)
  code-bounds = subst (λ (x : ℕ). (past53 ≤ x) × (x ≤ past54 - 2)) (sym is_lead) (root-bounds (lead m e * 4) (lead-bounds m e lo hi))

  pub code-root : odd 53 false ((s + 1) / 2) (e / 2) 1074 ≡ root_of (m * 2 ^ (e + 52))
  unfolding nearest_root
  code-root = ap (λ (x : ℕ). odd 53 false ((x + 1) / 2) (e / 2) 1074) is_lead ∙ sym (root_of_at m e lo hi)

-- and as it tests a guess: q is nearest the root
pub guess_root : (m e q : ℕ) → hidden ≤ m → m < past53 → nearest_root (m * (1 + e % 2) * hidden) ≡ q → odd 53 false q (e / 2) 1074 ≡ root_of (m * 2 ^ (e + 52))
guess_root m e q lo hi is = ap (λ (x : ℕ). odd 53 false x (e / 2) 1074) (sym is ∙ ap nearest_root (sym (quarter (lead m e) (m * (1 + e % 2)) (lead-code m e lo hi)))) ∙ sym (root_of_at m e lo hi)
  where
    quarter : (a n : ℕ) → a * 4 ≡ n * past54 → a ≡ n * hidden
    quarter a n h = omega arith

-- in an attribute's spelling
pub ruleset as_coded = (code-bounds, code-root)
