-- A position rounded down by its whole part. Assumes nothing.
use Rattle.std.proofs.Common.{◌≡◌, ℕ, zero, suc, ◌+◌, ◌-◌, ◌*◌, ◌/◌, ◌%◌, ◌<◌, ◌≤◌, min, Bool, true, false, T, ltb, ℤ, pos, negsuc, ◌-ℤ◌, ◌≤ℤ◌, neg_ℤ, sym, refl, ap, ◌∙◌, lt_of_lt_of_le, mul-le-mul_right, mod-lt, div-lt_iff_lt-mul, add-mul, lt_of_mul-lt-mul_right, mul-lt-mul_of_pos_right, one-mul, div-add-mod', le-div_iff_mul-le, zero-mul, add-zero, add-one, mul-one, mul_right_comm, arith, ltb-false, ltb-true, le-ltb, lt-ltb, le-leb, leb-false, leb-true}
use Rattle.std.specs.Prelude.{Option, None, Some}
use Rattle.std.proofs.lemmas.Int.{ints}
use lib.Arith.{digits_div}
use lib.Ieee.{Float, nan, inf, fin, binary64, up, down, lt, eq, le, of_int, round, to_signed}
use lib.Ieee.Fits.{down_pos}
use lib.Ieee.Exact.{HasValue}
use lib.Ieee.Back.{round_whole}
use borrow.Author.Tests.{lt-leb}
use Rattle.sheets.specs.Metres.{signed, floor_of, metres_of}
use Rattle.sheet_text.proofs.Limits.{big_f, low_f, under_big, lt_big, low-under, low_le, no, far-below, near-below, holds}

-- ---- within limits the whole part is asked for

pub asked : (x : Float) → le low_f x ≡ true → lt x big_f ≡ true → T (le (fin true 1 (pos 63)) x) × T (lt x (fin false 1 (pos 63)))
unfolding le lt eq under_big low-under
asked nan p q = no (sym q)
asked (inf false) p q = no (sym q)
asked (inf true) p q = no (sym p)
asked (fin false m e) p q =
    let d = down_pos e in
    let h : m * up e < 10000000 * down e = ltb-true (m * up e) (10000000 * down e) (sym (lt_big false m e) ∙ q) in
    (holds _ (rw (lt-ltb 0 (9223372036854775808 * down e + m * up e * 1) (omega arith))), holds _ (lt-ltb (m * up e * 1) (9223372036854775808 * down e) (omega arith)))
asked (fin true m e) p q =
    let d = down_pos e in
    let h : m * up e ≤ 9999999 * down e = leb-true (m * up e) (9999999 * down e) (sym (low_le true m e) ∙ p) in
    (holds _ (rw (lt-ltb (m * up e * 1) (9223372036854775808 * down e) (omega arith))), holds _ (lt-ltb 0 (m * up e * 1 + 9223372036854775808 * down e) (omega arith)))

-- ---- out of them there are no whole metres

pub too_low : (x : Float) → le low_f x ≡ false → metres_of x ≡ None
unfolding le lt eq low-under metres_of floor_of
too_low nan p = refl
too_low (inf s) p = refl
too_low (fin false m e) p = no (sym (low_le false m e) ∙ p)
too_low (fin true m e) p =
    let d = down_pos e in
    let h : 9999999 * down e < m * up e = leb-false (m * up e) (9999999 * down e) (sym (low_le true m e) ∙ p) in
    let k : 10000000 ≤ (m * up e + (down e - 1)) / down e = (le-div_iff_mul-le d).1 (omega arith) in
    far-below ((m * up e + (down e - 1)) / down e) k

pub too_high : (x : Float) → lt x big_f ≡ false → metres_of x ≡ None
unfolding lt under_big metres_of floor_of
too_high nan p = refl
too_high (inf s) p = refl
too_high (fin false m e) p =
    let h : 10000000 ≤ m * up e / down e = (le-div_iff_mul-le (down_pos e)).1 (ltb-false (m * up e) (10000000 * down e) (sym (lt_big false m e) ∙ p)) in
    rw (lt-leb (m * up e / down e) 9999999 h)
too_high (fin true m e) p = no (sym (lt_big true m e) ∙ p)

-- ---- the code's test: a position is below its whole part u, as a float

ltb_cancel : (u a d : ℕ) → 0 < d → ltb (u * d) (a * d) ≡ ltb u a
ltb_cancel u a d h = go (ltb u a) refl
  where
    go : (t : Bool) → ltb u a ≡ t → ltb (u * d) (a * d) ≡ t
    go true e = lt-ltb (u * d) (a * d) (mul-lt-mul_of_pos_right (ltb-true u a e) h)
    go false e = le-ltb (u * d) (a * d) (mul-le-mul_right d (ltb-false u a e))

plain_lt : (m : ℕ) (e : ℤ) (y : Float) (u : ℕ) → HasValue y false u 1 → lt (fin false m e) y ≡ ltb (m * up e) (u * down e)
unfolding lt
plain_lt m e nan u h = absurd h
plain_lt m e (inf t) u h = absurd h
plain_lt m e (fin t n d) u h =
    let v : n * up d ≡ u * down d = rw mul-one at h.1 in
    rw (h.0, v, mul_right_comm u (down d) (down e)) (ltb_cancel (m * up e) (u * down e) (down d) (down_pos d))

zero_lt : (m : ℕ) (e : ℤ) (y : Float) → HasValue y false 0 1 → lt (fin true m e) y ≡ ltb (0 * down e) (m * up e)
unfolding lt
zero_lt m e nan h = absurd h
zero_lt m e (inf t) h = absurd h
zero_lt m e (fin t n d) h =
    let v : n * up d ≡ 0 * down d = rw mul-one at h.1 in
    rw (h.0, v, mul_right_comm 0 (down d) (down e), zero-mul (down e), zero-mul (down d), add-zero) (rw (zero-mul (down d)) at (ltb_cancel 0 (m * up e) (down d) (down_pos d)))

below_lt : (m : ℕ) (e : ℤ) (y : Float) (u : ℕ) → HasValue y true u 1 → lt (fin true m e) y ≡ ltb (u * down e) (m * up e)
unfolding lt
below_lt m e nan u h = absurd h
below_lt m e (inf t) u h = absurd h
below_lt m e (fin t n d) u h =
    let v : n * up d ≡ u * down d = rw mul-one at h.1 in
    rw (h.0, v, mul_right_comm u (down d) (down e)) (ltb_cancel (u * down e) (m * up e) (down d) (down_pos d))

test_plain : (m : ℕ) (e : ℤ) (u : ℕ) → u ≤ 9999999 → lt (fin false m e) (of_int binary64 (pos u)) ≡ ltb (m * up e) (u * down e)
unfolding of_int
test_plain m e u h = plain_lt m e (round binary64 false u 1) u (round_whole binary64 false u (omega arith))

test_below : (m : ℕ) (e : ℤ) (u : ℕ) → u ≤ 9999999 → lt (fin true m e) (of_int binary64 (neg_ℤ (pos u))) ≡ ltb (u * down e) (m * up e)
unfolding of_int
test_below m e zero h = zero_lt m e (round binary64 false 0 1) (round_whole binary64 false 0 (omega arith))
test_below m e (suc u) h = below_lt m e (round binary64 true (suc u) 1) (suc u) (round_whole binary64 true (suc u) (omega arith))

-- ---- a / d rounded up

small : (u d : ℕ) {a : ℕ} → u * d < a → a ≤ 9999999 * d → u < 9999999
small u d h k = lt_of_mul-lt-mul_right d (lt_of_lt_of_le h k)

up_next : (a d u : ℕ) → 0 < d → a / d ≡ u → u * d < a → (a + (d - 1)) / d ≡ u + 1
up_next a d u p e h =
    let r : a % d < d = mod-lt a p in
    let w : a / d * d + a % d ≡ a = div-add-mod' a d in
    let v : u * d + a % d ≡ a = rw (← e) w in
    let t : a + (d - 1) ≡ (u + 1) * d + (a % d - 1) = rw (add-mul u 1 d, one-mul d) (omega arith) in
    rw t (digits_div (u + 1) {m = d} (omega arith))

up_same : (a d u : ℕ) → 0 < d → a / d ≡ u → a ≤ u * d → (a + (d - 1)) / d ≡ u
up_same a d u p e h =
    let w : a / d * d + a % d ≡ a = div-add-mod' a d in
    let v : u * d + a % d ≡ a = rw (← e) w in
    let t : a + (d - 1) ≡ u * d + (d - 1) = omega arith in
    rw t (digits_div u {m = d} (omega arith))

-- ---- within limits: z is the whole part, and the floor is z, or one less where the position is below z

pub record Floored (x : Float) (z : ℤ) : Type 0 where
  pub low : negsuc 9999998 ≤ℤ z
  pub high : z ≤ℤ pos 9999999
  pub less : lt x (of_int binary64 z) ≡ true → metres_of x ≡ Some (z -ℤ pos 1)
  pub same : lt x (of_int binary64 z) ≡ false → metres_of x ≡ Some z

one_less : (u : ℕ) → signed true (u + 1) ≡ neg_ℤ (pos u) -ℤ pos 1
one_less zero = refl
one_less (suc u) = rw (add-one (suc u), add-zero)

minus : (u : ℕ) → signed true u ≡ neg_ℤ (pos u)
minus zero = refl
minus (suc u) = refl

pub floored : (x : Float) → le low_f x ≡ true → lt x big_f ≡ true → Floored x (to_signed 63 x)
unfolding le lt eq low-under under_big to_signed metres_of floor_of
floored nan p q = no (sym q)
floored (inf false) p q = no (sym q)
floored (inf true) p q = no (sym p)
floored (fin false m e) p q =
    let d = down_pos e in
    let u = m * up e / down e in
    let h : m * up e / down e < 10000000 = (div-lt_iff_lt-mul d).1 (ltb-true (m * up e) (10000000 * down e) (sym (lt_big false m e) ∙ q)) in
    let n : min (m * up e / down e) 9223372036854775807 ≡ m * up e / down e = omega arith in
    let l : m * up e / down e ≤ 9999999 = omega arith in
    let w : m * up e / down e * down e + m * up e % down e ≡ m * up e = div-add-mod' (m * up e) (down e) in
    rw n
    (record {
      low = omega (arith, ints);
      high = omega (arith, ints);
      less = λ t. let r = ltb-true (m * up e) (m * up e / down e * down e) (sym (test_plain m e (m * up e / down e) l) ∙ t) in absurd (omega arith);
      same = λ t. rw (le-leb (m * up e / down e) 9999999 l);
    })
floored (fin true m e) p q =
    let d = down_pos e in
    let a = m * up e in
    let h : m * up e ≤ 9999999 * down e = leb-true (m * up e) (9999999 * down e) (sym (low_le true m e) ∙ p) in
    let k : m * up e / down e < 10000000 = (div-lt_iff_lt-mul d).1 (omega arith) in
    let n : min (m * up e / down e) 9223372036854775808 ≡ m * up e / down e = omega arith in
    let l : m * up e / down e ≤ 9999999 = omega arith in
    let test = test_below m e (m * up e / down e) l in
    rw n
    (record {
      low = omega (arith, ints);
      high = omega (arith, ints);
      less = λ t.
          let r : m * up e / down e * down e < m * up e = ltb-true (m * up e / down e * down e) (m * up e) (sym test ∙ t) in
          let v : m * up e / down e < 9999999 = small (m * up e / down e) (down e) r h in
          rw (up_next (m * up e) (down e) (m * up e / down e) d refl r) (near-below (m * up e / down e + 1) (omega arith) ∙ ap {B = Option ℤ} Some (one_less (m * up e / down e)));
      same = λ t.
          let r : m * up e ≤ m * up e / down e * down e = ltb-false (m * up e / down e * down e) (m * up e) (sym test ∙ t) in
          rw (up_same (m * up e) (down e) (m * up e / down e) d refl r) (near-below (m * up e / down e) l ∙ ap {B = Option ℤ} Some (minus (m * up e / down e)));
    })
