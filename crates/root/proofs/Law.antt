-- `root x` is the value nearest the exact root of x, for every positive finite x, and it is the only value that is. Assumes nothing.
use mathlib.Core.Path.{◌≡◌, refl, sym, ap, ◌∙◌, subst}
use mathlib.Core.Logic.{◌⊎◌, inl, inr}
use Prim.Native.Nat.{ℕ, zero, suc, ◌+◌, ◌-◌, ◌*◌, ◌/◌, ◌%◌, ◌^◌, ◌≤◌, ◌<◌}
use native.Mathlib.Nat.{zero-lt-suc, le_trans, le_of_eq, le_of_lt, le_of_suc-le-suc, le_antisymm, eq-or-lt_of_le, lt_irrefl, lt_of_lt_of_le, lt_of_not-le, mul_assoc, mul_comm, mul-le-mul, mul-le-mul_right, mul-lt-mul_of_pos_right, mul-mul-mul_comm, add-mul, pow-succ', add-le-add}
use native.Mathlib.Numerals.{add-one}
use native.Mathlib.Omega.{arith}
use mathlib.Core.Bool.{Bool, true, false, not, true≢false}
use lib.Dec.{T, leb, leb→le, nleb→lt, lit<, lit≤, lt→ltb}
use lib.Pow.{pow-add, pow_pos}
use lib.IntN.{ℤ, pos}
use lib.Ieee.Fits.{nan-fits}
use borrow.Author.Tests.{ltb-true}
use lib.Ieee.{Float, nan, inf, fin, binary64, lt, up, down, odd, of_bits, to_bits, fits}
use lib.Ieee.Bits.{of_bits-to_bits, of_bits-fits}
use lib.Ieee.Positive.{positive}
use Rattle.root.specs.Weights.{hidden, past53, past54, infinity}
use Rattle.root.specs.Root.{root, root_of, as_whole, isqrt, nearest_root}
use Rattle.root.specs.Nearest.{next_down, next_up, Nearest, CorrectlyRounded}
use Rattle.root.proofs.Whole.{IsRoot, near_low, near_high}
use Rattle.root.proofs.Scaled.{lead, split, root_of_at, lead-bounds, root_of_lem, root-bounds, four-pow}
use Rattle.root.proofs.Shift.{Shifted, shifted}
use Rattle.root.proofs.Patterns.{at_normal, positive_odd, root-positive, as_whole_odd}
use Rattle.root.proofs.Grid.{val, val-normal, val_subnormal, val-next, val_mono, bits_range, bits_back}

-- ---- every positive value, times 2 ^ 1074, is m * 2 ^ (e + 52) with an m of 53 digits
pub record Parts (n : ℕ) : Type 0 where
  pub m : ℕ
  pub e : ℕ
  pub low : hidden ≤ m
  pub high : m < past53
  pub from : 970 ≤ e
  pub to : e < 3068
  pub is : n * 2 ^ 1074 ≡ m * 2 ^ (e + 52)

-- a normal value
parts-normal : (q k : ℕ) → hidden ≤ q → q < past53 → k < 2046 → Parts (q * 2 ^ k)
parts-normal q k l h g = record {
  m = q;
  e = k + 1022;
  low = l;
  high = h;
  from = omega arith;
  to = omega arith;
  is = mul_assoc q (2 ^ k) (2 ^ 1074) ∙ ap (λ (x : ℕ). q * x) (sym (pow-add 2 k 1074) ∙ ap (λ (n : ℕ). 2 ^ n) (same k));
}
  where
    same : (k : ℕ) → k + 1074 ≡ k + 1022 + 52
    same k = omega arith

-- a subnormal value, moved up
parts_subnormal : (b z : ℕ) → Shifted b z → Parts b
parts_subnormal b z s =
    let k = z - 11 in
    record {
      m = b * 2 ^ k;
      e = 1022 - k;
      low = s.low;
      high = s.high;
      from = omega arith;
      to = omega arith;
      is = sym (mul_assoc b (2 ^ 1022) (2 ^ 52)) ∙ ap (λ (x : ℕ). x * 2 ^ 52) (sym s.is) ∙ mul_assoc (b * 2 ^ k) (2 ^ (1022 - k)) (2 ^ 52) ∙ ap (λ (x : ℕ). b * 2 ^ k * x) (sym (pow-add 2 (1022 - k) 52));
    }

parts : (b : ℕ) → 0 < b → b < infinity → Parts (val b)
parts b p h = go (leb hidden b) (leb→le hidden b) (nleb→lt hidden b)
  where
    apart : (b : ℕ) → hidden ≤ b → b ≡ (b / hidden - 1) * hidden + (hidden + b % hidden)
    apart b l = omega arith

    normal : (b : ℕ) → b < infinity → hidden ≤ b → Parts (val b)
    normal b h l =
        let q = hidden + b % hidden in
        let k = b / hidden - 1 in
        subst Parts (sym (ap val (apart b l) ∙ val-normal q k (omega arith) (omega arith) (omega arith))) (parts-normal q k (omega arith) (omega arith) (omega arith))

    go : (t : Bool) → (T t → hidden ≤ b) → (T (not t) → b < hidden) → Parts (val b)
    go true y n = normal b h (y tt)
    go false y n = subst Parts (sym (val_subnormal b (n tt))) (parts_subnormal b _ (shifted b p (n tt)))

pub parts_of : (x : Float) → T (fits binary64 x) → T (positive x) → Parts (as_whole x)
parts_of x h p = let r = bits_range x h p in subst (λ (y : Float). Parts (as_whole y)) (of_bits-to_bits binary64 x h) (parts (to_bits binary64 x) r.0 r.1)

-- ---- r = q * 2 ^ k and its neighbours
-- the square of u * 2 ^ k + w * 2 ^ k
square : (u w k : ℕ) → (u * 2 ^ k + w * 2 ^ k) * (u * 2 ^ k + w * 2 ^ k) ≡ (u + w) * (u + w) * 4 ^ k
square u w k =
    ap (λ (x : ℕ). x * x) (sym (add-mul u w (2 ^ k))) ∙ mul-mul-mul_comm (u + w) (2 ^ k) (u + w) (2 ^ k) ∙ ap (λ (x : ℕ). (u + w) * (u + w) * x) (sym (pow-add 2 k k) ∙ sym (four-pow k))

four_pos : (k : ℕ) → 0 < 4 ^ k
four_pos k = subst (λ (x : ℕ). 0 < x) (sym (four-pow k)) (pow_pos (k + k))

module _ (q k : ℕ) (lo : hidden ≤ q) (hi : q < past53) (kl : 0 < k) (kh : k < 2045) where
  abbrev R : Float
  R = odd 53 false q k 1074

  R-bits : to_bits binary64 R ≡ k * hidden + q
  R-bits = ap (to_bits binary64) (sym (at_normal q k lo hi (omega arith))) ∙ bits_back (k * hidden + q) (omega arith)

  R-fits : T (fits binary64 R)
  R-fits = subst (λ (x : Float). T (fits binary64 x)) (at_normal q k lo hi (omega arith)) (of_bits-fits binary64 (k * hidden + q))

  R-as_whole : as_whole R ≡ q * 2 ^ k
  R-as_whole = as_whole_odd false q k

  above-as_whole : as_whole (next_up R) ≡ (q + 1) * 2 ^ k
  above-as_whole = ap (λ (b : ℕ). val (b + 1)) R-bits ∙ val-next q k lo hi (omega arith)

  -- the neighbour next_down, where q is not the least of 53 digits
  below-as_whole : (v : ℕ) → v + 1 ≡ q → hidden ≤ v → as_whole (next_down R) ≡ v * 2 ^ k
  below-as_whole v e l = ap (λ (b : ℕ). val (b - 1)) R-bits ∙ ap val (less v e) ∙ val-normal v k l (omega arith) (omega arith)
    where
      less : (v : ℕ) → v + 1 ≡ q → k * hidden + q - 1 ≡ k * hidden + v
      less v e = omega arith

  -- and where it is
  below-edge : (j : ℕ) → j + 1 ≡ k → q ≡ hidden → as_whole (next_down R) ≡ (past53 - 1) * 2 ^ j
  below-edge j e f = ap (λ (b : ℕ). val (b - 1)) R-bits ∙ ap val (less j e f) ∙ val-normal (past53 - 1) j (lit≤ tt) (lit< tt) (omega arith)
    where
      less : (j : ℕ) → j + 1 ≡ k → q ≡ hidden → k * hidden + q - 1 ≡ j * hidden + (past53 - 1)
      less j e f = omega arith

  module _ (a s : ℕ) (is : IsRoot (a * 4) s) (near : q ≡ (s + 1) / 2) (large : (2 ^ 106) ≤ a * 4) where
    under_at : a * 4 * 4 ^ k < (as_whole R + as_whole (next_up R)) * (as_whole R + as_whole (next_up R))
    under_at =
        subst (λ (x : ℕ). a * 4 * 4 ^ k < x) (sym (ap (λ (x : ℕ). (x + as_whole (next_up R)) * (x + as_whole (next_up R))) R-as_whole ∙ ap (λ (x : ℕ). (q * 2 ^ k + x) * (q * 2 ^ k + x)) above-as_whole ∙ square q (q + 1) k))
        (mul-lt-mul_of_pos_right (near_high a s q is near) (four_pos k))

    over_at : (as_whole (next_down R) + as_whole R) * (as_whole (next_down R) + as_whole R) < a * 4 * 4 ^ k
    over_at = elim (eq-or-lt_of_le lo) [ inl e ↦ edge (k - 1) (back k kl) (sym e) | inr l ↦ plain (q - 1) (pred q l) (pred_ge q l) ]
      where
        back : (k : ℕ) → 0 < k → k - 1 + 1 ≡ k
        back k p = omega arith

        pred : (q : ℕ) → hidden < q → q - 1 + 1 ≡ q
        pred q l = omega arith

        pred_ge : (q : ℕ) → hidden < q → hidden ≤ q - 1
        pred_ge q l = omega arith

        plain : (v : ℕ) → v + 1 ≡ q → hidden ≤ v → (as_whole (next_down R) + as_whole R) * (as_whole (next_down R) + as_whole R) < a * 4 * 4 ^ k
        plain v e l =
            subst (λ (x : ℕ). x < a * 4 * 4 ^ k)
            (sym (ap (λ (x : ℕ). (x + as_whole R) * (x + as_whole R)) (below-as_whole v e l) ∙ ap (λ (x : ℕ). (v * 2 ^ k + x) * (v * 2 ^ k + x)) (R-as_whole ∙ ap (λ (x : ℕ). x * 2 ^ k) (sym e)) ∙ square v (v + 1) k))
            (mul-lt-mul_of_pos_right (near_low a s v is (e ∙ near)) (four_pos k))

        edge : (j : ℕ) → j + 1 ≡ k → q ≡ hidden → (as_whole (next_down R) + as_whole R) * (as_whole (next_down R) + as_whole R) < a * 4 * 4 ^ k
        edge j e f =
            subst (λ (x : ℕ). x < a * 4 * 4 ^ k)
            (sym
            (ap (λ (x : ℕ). (x + as_whole R) * (x + as_whole R)) (below-edge j e f)
            ∙ ap (λ (x : ℕ). ((past53 - 1) * 2 ^ j + x) * ((past53 - 1) * 2 ^ j + x)) (R-as_whole ∙ ap (λ (x : ℕ). x * 2 ^ k) f ∙ ap (λ (x : ℕ). hidden * x) (ap (λ (n : ℕ). 2 ^ n) (sym e ∙ add-one j) ∙ pow-succ' 2 j) ∙ sym (mul_assoc hidden 2 (2 ^ j)))
            ∙ square (past53 - 1) past53 j))
            (lt_of_lt_of_le (mul-lt-mul_of_pos_right (lit< tt) (four_pos j))
            (le_trans (le_of_eq (mul_assoc (2 ^ 106) 4 (4 ^ j) ∙ ap (λ (x : ℕ). (2 ^ 106) * x) (sym (pow-succ' 4 j) ∙ ap (λ (n : ℕ). 4 ^ n) (sym (add-one j) ∙ e))))
            (mul-le-mul_right (4 ^ k) large)))

-- ---- the law
nearest_is : (a : ℕ) → nearest_root a ≡ (isqrt 54 (a * 4) + 1) / 2
unfolding nearest_root
nearest_is a = refl

nearest_at : (x : Float) → T (positive x) → (p : Parts (as_whole x)) → Nearest x (root x)
nearest_at x is_pos p =
    let m = p.m in
    let e = p.e in
    let a = lead m e in
    let k = e / 2 in
    let s = isqrt 54 (a * 4) in
    let q = (s + 1) / 2 in
    let b = lead-bounds m e p.low p.high in
    let r = root-bounds (a * 4) b in
    let lo : hidden ≤ q = half_lo s r.0 in
    let hi : q < past53 = half_hi s r.1 in
    let kl : 0 < k = k_lo e p.from in
    let kh : k < 2045 = k_hi e p.to in
    let is : root x ≡ odd 53 false q k 1074 = root-positive x is_pos ∙ ap root_of p.is ∙ root_of_at m e p.low p.high ∙ ap (λ (n : ℕ). odd 53 false n k 1074) (nearest_is a) in
    let four : a * 4 * 4 ^ k ≡ 4 * (as_whole x * 2 ^ 1074) = four-times a (4 ^ k) ∙ ap (λ (w : ℕ). 4 * w) (sym (split m e p.low p.high) ∙ sym p.is) in
    subst (Nearest x) (sym is)
    record {
      is_positive = positive_odd q k (lt_of_lt_of_le (lit< tt) lo);
      is_held = R-fits q k lo hi kl kh;
      over = subst (λ (w : ℕ). (as_whole (next_down (odd 53 false q k 1074)) + as_whole (odd 53 false q k 1074)) * (as_whole (next_down (odd 53 false q k 1074)) + as_whole (odd 53 false q k 1074)) < w) four (over_at q k lo hi kl kh a s (root_of_lem (a * 4) b) refl b.0);
      under = subst (λ (w : ℕ). w < (as_whole (odd 53 false q k 1074) + as_whole (next_up (odd 53 false q k 1074))) * (as_whole (odd 53 false q k 1074) + as_whole (next_up (odd 53 false q k 1074)))) four (under_at q k lo hi kl kh a s (root_of_lem (a * 4) b) refl b.0);
    }
  where
    half_lo : (s : ℕ) → past53 ≤ s → hidden ≤ (s + 1) / 2
    half_lo s h = omega arith

    half_hi : (s : ℕ) → s ≤ (past54 - 2) → (s + 1) / 2 < past53
    half_hi s h = omega arith

    k_lo : (e : ℕ) → 970 ≤ e → 0 < e / 2
    k_lo e h = omega arith

    k_hi : (e : ℕ) → e < 3068 → e / 2 < 2045
    k_hi e h = omega arith

    four-times : (a w : ℕ) → a * 4 * w ≡ 4 * (a * w)
    four-times a w = ap (λ (x : ℕ). x * w) (mul_comm a 4) ∙ mul_assoc 4 a w

pub nearest : (x : Float) → T (fits binary64 x) → T (positive x) → Nearest x (root x)
nearest x h p = nearest_at x p (parts_of x h p)

-- ---- only one value is nearest
square_mono : (a b : ℕ) → a ≤ b → a * a ≤ b * b
square_mono a b h = mul-le-mul h h

-- a value whose pattern comes after r's is not nearest too
not_later : (w b c : ℕ) → b < c → c < infinity → w < (val b + val (b + 1)) * (val b + val (b + 1)) → (val (c - 1) + val c) * (val (c - 1) + val c) < w → ⊥
not_later w b c l h u o =
    lt_irrefl w
    (lt_of_lt_of_le u
    (le_trans (square_mono (val b + val (b + 1)) (val (c - 1) + val c) (add-le-add (val_mono b (c - 1) (omega arith) (omega arith)) (val_mono (b + 1) c (omega arith) h))) (le_of_lt o)))

pub only_one : (x r t : Float) → Nearest x r → Nearest x t → r ≡ t
only_one x r t p q =
    let b = to_bits binary64 r in
    let c = to_bits binary64 t in
    let w = 4 * (as_whole x * 2 ^ 1074) in
    let rb = of_bits-to_bits binary64 r p.is_held in
    let tb = of_bits-to_bits binary64 t q.is_held in
    let pu : w < (val b + val (b + 1)) * (val b + val (b + 1)) = subst (λ (y : Float). w < (as_whole y + val (b + 1)) * (as_whole y + val (b + 1))) (sym rb) p.under in
    let po : (val (b - 1) + val b) * (val (b - 1) + val b) < w = subst (λ (y : Float). (val (b - 1) + as_whole y) * (val (b - 1) + as_whole y) < w) (sym rb) p.over in
    let qu : w < (val c + val (c + 1)) * (val c + val (c + 1)) = subst (λ (y : Float). w < (as_whole y + val (c + 1)) * (as_whole y + val (c + 1))) (sym tb) q.under in
    let qo : (val (c - 1) + val c) * (val (c - 1) + val c) < w = subst (λ (y : Float). (val (c - 1) + as_whole y) * (val (c - 1) + as_whole y) < w) (sym tb) q.over in
    let bh = (bits_range r p.is_held p.is_positive).1 in
    let ch = (bits_range t q.is_held q.is_positive).1 in
    sym rb ∙ ap (of_bits binary64) (le_antisymm (not_above b c (λ (l : c < b). not_later w c b l bh qu po)) (not_above c b (λ (l : b < c). not_later w b c l ch pu qo))) ∙ tb
  where
    not_above : (b c : ℕ) → (c < b → ⊥) → b ≤ c
    not_above b c n = le_of_suc-le-suc (lt_of_not-le n)

-- so `Nearest` says of r exactly that it is the root
pub is_root : (x r : Float) → T (fits binary64 x) → T (positive x) → Nearest x r → r ≡ root x
is_root x r h p n = only_one x r (root x) n (nearest x h p)

-- ---- the neighbours are the neighbours: no other value lies nearer to r than they do
pub neighbours : (r y : Float) → T (fits binary64 r) → T (positive r) → T (fits binary64 y) → T (positive y) → (r ≡ y → ⊥) → (as_whole y ≤ as_whole (next_down r)) ⊎ (as_whole (next_up r) ≤ as_whole y)
neighbours r y rf rp yf yp n =
    let b = to_bits binary64 r in
    let c = to_bits binary64 y in
    let rb = of_bits-to_bits binary64 r rf in
    let yb = of_bits-to_bits binary64 y yf in
    let bh = bits_range r rf rp in
    let ch = bits_range y yf yp in
    elim (apart b c (λ (e : b ≡ c). n (sym rb ∙ ap (of_bits binary64) e ∙ yb))) [
      | inl l ↦ inl (subst (λ (x : Float). as_whole x ≤ val (b - 1)) yb (val_mono c (b - 1) (omega arith) (omega arith)))
      | inr l ↦ inr (subst (λ (x : Float). val (b + 1) ≤ as_whole x) yb (val_mono (b + 1) c (omega arith) ch.1))
    ]
  where
    apart : (b c : ℕ) → (b ≡ c → ⊥) → (c < b) ⊎ (b < c)
    apart b c m = go (leb b c) (leb→le b c) (nleb→lt b c)
      where
        go : (t : Bool) → (T t → b ≤ c) → (T (not t) → c < b) → (c < b) ⊎ (b < c)
        go true p q = let l = p tt in inr (omega arith)
        go false p q = inl (q tt)

-- ---- the special values
root_nan : root nan ≡ nan
unfolding root
root_nan = refl

root-infinite : root (inf false) ≡ inf false
unfolding root
root-infinite = refl

root-zero : (s : Bool) (e : ℤ) → root (fin s zero e) ≡ fin s zero e
unfolding root
root-zero s e = refl

root_below : (x : Float) → lt x (fin false 0 (pos 0)) ≡ true → root x ≡ nan
unfolding root lt
root_below nan h = refl
root_below (inf true) h = refl
root_below (inf false) h = absurd (true≢false (sym h))
root_below (fin true (suc m) e) h = refl
root_below (fin true zero e) h = absurd (none (up e) (down e) (ltb-true 0 (0 * up e * 1 + 0 * 1 * down e) h))
  where
    none : (u d : ℕ) → 0 < 0 * u * 1 + 0 * 1 * d → ⊥
    none u d l = omega arith
root_below (fin false m e) h = absurd (none (m * up e) (down e) (ltb-true (m * up e * 1) (0 * 1 * down e) h))
  where
    none : (n d : ℕ) → n * 1 < 0 * 1 * d → ⊥
    none n d l = omega arith

-- the root is a value that the format holds
root-fits : (x : Float) → T (fits binary64 x) → T (fits binary64 (root x))
unfolding root
root-fits nan h = h
root-fits (inf true) h = nan-fits binary64
root-fits (inf false) h = h
root-fits (fin s zero e) h = h
root-fits (fin true (suc m) e) h = nan-fits binary64
root-fits (fin false (suc m) e) h = (nearest (fin false (suc m) e) h (lt→ltb 0 (suc m) (zero-lt-suc m))).is_held

-- ---- the whole claim
pub correctly_rounded : CorrectlyRounded root
correctly_rounded = record {
  of_zero = λ s. root-zero s (pos 0);
  of_infinity = root-infinite;
  of_nan = root_nan;
  below-zero = root_below;
  nearest = nearest;
  only = is_root;
  held = root-fits;
}
