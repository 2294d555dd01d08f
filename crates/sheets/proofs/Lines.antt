-- The laws of a line's form and of lines read one after another. Assumes nothing.
use mathlib.Core.Path.{◌≡◌, refl}
use mathlib.Core.Bool.{Bool, true, false, cond}
use mathlib.Core.List.{List}
use Prim.Native.Nat.{ℕ, zero, suc, ◌+◌, ◌-◌, ◌*◌, ◌≤◌, ◌<◌}
use native.Mathlib.Omega.{arith}
use lib.Dec.{leb, ltb}
use lib.IntN.{ℤ, pos, negsuc, nat_abs}
use lib.ListN.{length, get_or}
use borrow.Author.Tests.{ltb-true, lt-ltb, le-ltb, ne_eqb, eq-eqb, leb-true}
use Rattle.answer.specs.declared.Refusal.TheVariants.{BadForm, OutOfRange}
use Rattle.sheets.specs.Verdict.{Verdict, refused, prepend}
use Rattle.std.specs.Prelude.{is_some}
use Rattle.sheets.specs.Line.{field_at, fields_read, form, values, read_lines, in_range}
use Rattle.sheets.proofs.Verdicts.{and_r, and_l, and_false, Long, long-prepend}

-- ---- the form of a line

pub fields_bad : (k j at : ℕ) (s : List ℕ) → j < k → is_some (field_at s (at + 8 * j)) ≡ false → fields_read (k - j) s (at + 8 * j) ≡ false
unfolding fields_read
fields_bad k j at s h e = let n : k - j ≡ suc (k - (j + 1)) = omega arith in rw (n, e)

pub fields-step : (k j at : ℕ) (s : List ℕ) → j < k → is_some (field_at s (at + 8 * j)) ≡ true → fields_read (k - j) s (at + 8 * j) ≡ fields_read (k - (j + 1)) s (at + 8 * (j + 1))
unfolding fields_read
fields-step k j at s h e =
    let n : k - j ≡ suc (k - (j + 1)) = omega arith in
    let m : at + 8 * j + 8 ≡ at + 8 * (j + 1) = omega arith in
    rw (n, e, m)

pub fields-end : (k j at : ℕ) (s : List ℕ) → k ≤ j → fields_read (k - j) s (at + 8 * j) ≡ true
unfolding fields_read
fields-end k j at s h = let n : k - j ≡ 0 = omega arith in rw n

pub form-short : (k at : ℕ) (s : List ℕ) → length s ≤ at + 8 * k → form k s at ≡ false
unfolding form
form-short k at s h = rw (le-ltb (at + 8 * k) (length s) h)

pub form-end : (k at : ℕ) (s : List ℕ) → (get_or s (at + 8 * k) 0 ≡ 10 → ⊥) → form k s at ≡ false
unfolding form
form-end k at s h = rw (ne_eqb (get_or s (at + 8 * k) 0) 10 h) (and_false (ltb (at + 8 * k) (length s)) false refl)

pub form-fields : (k at : ℕ) (s : List ℕ) → at + 8 * k < length s → get_or s (at + 8 * k) 0 ≡ 10 → form k s at ≡ fields_read k s at
unfolding form
form-fields k at s h e = rw (lt-ltb (at + 8 * k) (length s) h, eq-eqb (get_or s (at + 8 * k) 0) 10 e)

-- a line that has its form is all there
pub form-length : (k at : ℕ) (s : List ℕ) → form k s at ≡ true → at + 8 * k < length s
unfolding form
form-length k at s e = ltb-true (at + 8 * k) (length s) (and_l (ltb (at + 8 * k) (length s)) _ e)

-- a number in its range lies between its limits
pub range-both : (lo hi : ℕ) (z : ℤ) → in_range lo hi z ≡ true → (lo ≤ nat_abs z) × (nat_abs z ≤ hi)
range-both lo hi (pos m) e = (leb-true lo m (and_l (leb lo m) (leb m hi) e), leb-true m hi (and_r (leb lo m) (leb m hi) e))
range-both lo hi (negsuc n) e = let z : ◌≡◌ {A = ℕ} 0 1 = cc in absurd (omega arith)

-- ---- one more line

module _ (k : ℕ) (ok : List ℤ → List ℤ → Bool) (n : ℕ) (before : List ℤ) (l at : ℕ) (s : List ℕ) where
  pub lines_bad : form k s at ≡ false → read_lines k ok (suc n) before l at s ≡ refused BadForm l
  unfolding read_lines
  lines_bad e = rw e

  pub lines-out : form k s at ≡ true → ok before (values k s at) ≡ false → read_lines k ok (suc n) before l at s ≡ refused OutOfRange l
  unfolding read_lines
  lines-out e h = rw (e, h)

  pub lines_step : form k s at ≡ true → ok before (values k s at) ≡ true
      → read_lines k ok (suc n) before l at s ≡ prepend (values k s at) (read_lines k ok n (values k s at) (l + 1) (at + (8 * k + 1)) s)
  unfolding read_lines
  lines_step e h = rw (e, h)

-- as many rows as lines
pub lines_long : (k : ℕ) (ok : List ℤ → List ℤ → Bool) (n : ℕ) (before : List ℤ) (l at : ℕ) (s : List ℕ) → Long n (read_lines k ok n before l at s)
unfolding read_lines Long
lines_long k ok zero before l at s = refl
lines_long k ok (suc n) before l at s =
    go (form k s at) (ok before (values k s at)) (read_lines k ok n (values k s at) (l + 1) (at + (8 * k + 1)) s) (lines_long k ok n (values k s at) (l + 1) (at + (8 * k + 1)) s)
  where
    go : (x y : Bool) (r : Verdict (List (List ℤ))) → Long n r → Long (suc n) (cond x (cond y (prepend (values k s at) r) (refused OutOfRange l)) (refused BadForm l))
    go true true r h = long-prepend (values k s at) n r h
    go true false r h = tt
    go false y r h = tt
