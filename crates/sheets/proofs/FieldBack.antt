-- What is written in a field reads back. Assumes nothing.
use mathlib.Core.Path.{◌≡◌, refl, sym, ap, ◌∙◌}
use mathlib.Core.Bool.{Bool, true, false, ◌||◌}
use mathlib.Core.List.{◌∷◌}
use Rattle.std.specs.Prelude.{Some}
use Prim.Native.Nat.{ℕ, zero, suc, ◌+◌, ◌-◌, ◌*◌, ◌/◌, ◌%◌, ◌^◌, ◌≤◌, ◌<◌}
use native.Mathlib.Omega.{arith}
use lib.IntN.{ℤ, pos, negsuc}
use lib.ListN.{length}
use native.Mathlib.Nat.{pow-succ', pow-le-pow_right, le_trans, mod-eq_of_lt, div-lt_iff_lt-mul, le-div_iff_mul-le, one-mul}
use lib.Dec.{leb, eqb, lit<}
use lib.Arith.{mod-mul}
use borrow.Author.Tests.{leb-true, leb-false, ne_eqb, lt-leb, le-leb}
use Rattle.sheets.specs.Field.{is_digit, all_digits, decimal, leading_zero, read_digits, read_field, reaches, column, columns, write_field, holds}
use Rattle.sheets.proofs.Reading.{is_digit_lem, zero-first}
use Rattle.sheets.proofs.Writing.{ten, reaches-zero, reaches_on, column_digit, column-minus, column_space}

pub length-columns : (s : Bool) (k m : ℕ) → length (columns s k m) ≡ k
unfolding columns
length-columns s zero m = refl
length-columns s (suc k) m = ap suc (length-columns s k m)

or_true : (a b : Bool) → b ≡ true → (a || b) ≡ true
or_true true b e = refl
or_true false b e = e

pub reaches_le : (j m : ℕ) → 10 ^ j ≤ m → reaches j m ≡ true
reaches_le j m h = or_true (eqb j 0) (leb (10 ^ j) m) (le-leb (10 ^ j) m h)

-- a column that is reached has all columns to its right reached
pub reaches-down : (j k m : ℕ) → j ≤ k → reaches k m ≡ true → reaches j m ≡ true
reaches-down zero k m h e = reaches-zero 0 m refl
reaches-down (suc j) zero m h e = absurd (omega arith)
reaches-down (suc j) (suc k) m h e =
    reaches_le (suc j) m (le_trans (pow-le-pow_right {n = 10} (lit< tt) h) (leb-true (10 ^ suc k) m (sym (reaches_on (suc k) m (λ z. omega arith)) ∙ e)))

-- a column that is not reached is not the last one, and the number is below its power
not_reached : (k m : ℕ) → reaches k m ≡ false → (0 < k) × (m < 10 ^ k)
not_reached zero m e = let z : ◌≡◌ {A = Bool} true false = sym (reaches-zero 0 m refl) ∙ e in let y : ◌≡◌ {A = ℕ} 0 1 = cc in absurd (omega arith)
not_reached (suc k) m e = (omega arith, leb-false (10 ^ suc k) m (sym (reaches_on (suc k) m (λ z. omega arith)) ∙ e))

pub far : (k m : ℕ) → m < 10 ^ k → 0 < k → reaches k m ≡ false
far k m h p = reaches_on k m (λ z. omega arith) ∙ lt-leb (10 ^ k) m h

digit_lt : (k m : ℕ) → m / 10 ^ k % 10 < 10
digit_lt k m = omega arith

module _ (s : Bool) (m : ℕ) where
  full_digits : (k : ℕ) → ((j : ℕ) → j < k → reaches j m ≡ true) → all_digits (columns s k m) ≡ true
  unfolding all_digits columns
  full_digits zero r = refl
  full_digits (suc k) r =
      let d : is_digit (48 + m / 10 ^ k % 10) ≡ true = is_digit_lem (48 + m / 10 ^ k % 10) (omega arith) (omega arith) in
      rw (column_digit s k m (r k (omega arith)), d, full_digits k (λ j h. r j (omega arith)))

  full_value : (k : ℕ) → ((j : ℕ) → j < k → reaches j m ≡ true) → decimal (columns s k m) ≡ m % 10 ^ k
  unfolding decimal columns
  full_value zero r = omega arith
  full_value (suc k) r =
      let e : 48 + m / 10 ^ k % 10 - 48 ≡ m / 10 ^ k % 10 = omega arith in
      rw (column_digit s k m (r k (omega arith)), e, length-columns s k m, full_value k (λ j h. r j (omega arith)), pow-succ' 10 k)
      (sym (mod-mul m {m = 10} {c = 10 ^ k} (lit< tt) (ten k)))

  first_digit : (k : ℕ) → reaches (suc k) m ≡ true → m < 10 ^ suc (suc k) → 0 < m / 10 ^ suc k % 10
  first_digit k r h =
      let q : 1 * 10 ^ suc k ≤ m = rw one-mul (leb-true (10 ^ suc k) m (sym (reaches_on (suc k) m (λ z. omega arith)) ∙ r)) in
      let a : 1 ≤ m / 10 ^ suc k = (le-div_iff_mul-le (ten (suc k))).1 q in
      let b : m / 10 ^ suc k < 10 = (div-lt_iff_lt-mul (ten (suc k))).1 (rw (← pow-succ' 10 (suc k)) h) in
      omega arith

  not_zero : (k : ℕ) → reaches k m ≡ true → m < 10 ^ suc k → 48 + m / 10 ^ k % 10 ≡ 48 → k ≡ 0
  not_zero zero r h e = refl
  not_zero (suc k) r h e = let d = first_digit k r h in absurd (omega arith)

  read_full : (k : ℕ) → reaches k m ≡ true → m < 10 ^ suc k → read_digits (columns s (suc k) m) ≡ Some m
  unfolding read_digits columns
  read_full k r h =
      let full : (j : ℕ) → j < suc k → reaches j m ≡ true = λ j l. reaches-down j k m (omega arith) r in
      let a : all_digits (column s k m ∷ columns s k m) ≡ true = full_digits (suc k) full in
      let v : decimal (column s k m ∷ columns s k m) ≡ m = full_value (suc k) full ∙ mod-eq_of_lt h in
      let z : leading_zero (column s k m) (columns s k m) ≡ false =
      zero-first (column s k m) (columns s k m) (λ e. length-columns s k m ∙ not_zero k r h (sym (column_digit s k m r) ∙ e)) in
      rw (z, a, v)

  digit_column : (k : ℕ) → reaches k m ≡ true → (eqb (column s k m) 32 ≡ false) × (eqb (column s k m) 45 ≡ false)
  digit_column k r = (
    rw (column_digit s k m r) (ne_eqb (48 + m / 10 ^ k % 10) 32 (λ e. omega arith)),
    rw (column_digit s k m r) (ne_eqb (48 + m / 10 ^ k % 10) 45 (λ e. omega arith)),
  )

read_plain : (k m : ℕ) → m < 10 ^ k → 0 < k → read_field (columns false k m) ≡ Some (pos m)
unfolding read_field columns
read_plain zero m h p = absurd (omega arith)
read_plain (suc k) m h p = go (reaches k m) refl (read_plain k m)
  where
    go : (t : Bool) → reaches k m ≡ t → (m < 10 ^ k → 0 < k → read_field (columns false k m) ≡ Some (pos m)) → read_field (column false k m ∷ columns false k m) ≡ Some (pos m)
    go true r ih = let d : read_digits (column false k m ∷ columns false k m) ≡ Some m = read_full false m k r h in
        rw ((digit_column false m k r).0, (digit_column false m k r).1, d)
    go false r ih = rw (column_space false k m r refl, ih (not_reached k m r).1 (not_reached k m r).0)

read_below : (k n : ℕ) → suc n < 10 ^ k → read_field (columns true (suc k) (suc n)) ≡ Some (negsuc n)
unfolding read_field columns
read_below zero n h = absurd (omega arith)
read_below (suc k) n h = go (reaches k (suc n)) refl (read_below k n)
  where
    r : reaches (suc k) (suc n) ≡ false
    r = far (suc k) (suc n) h (omega arith)

    p : suc k - 1 ≡ k
    p = omega arith

    go : (t : Bool) → reaches k (suc n) ≡ t → (suc n < 10 ^ k → read_field (column true k (suc n) ∷ columns true k (suc n)) ≡ Some (negsuc n))
        → read_field (column true (suc k) (suc n) ∷ column true k (suc n) ∷ columns true k (suc n)) ≡ Some (negsuc n)
    go true q ih = let d : read_digits (column true k (suc n) ∷ columns true k (suc n)) ≡ Some (suc n) = read_full true (suc n) k q h in
        rw (column-minus true (suc k) (suc n) r refl (rw p q), d)
    go false q ih = rw (column_space true (suc k) (suc n) r (rw p q), ih (not_reached k (suc n) q).1)

-- reading what was written gives it back
pub field_back : (z : ℤ) → holds z ≡ true → read_field (write_field z) ≡ Some z
unfolding write_field
field_back (pos m) h = let k = leb-true m 99999999 h in read_plain 8 m (omega arith) (lit< tt)
field_back (negsuc n) h = let k = leb-true (suc n) 9999999 h in read_below 7 n (omega arith)

pub length-field : (z : ℤ) → length (write_field z) ≡ 8
unfolding write_field
length-field (pos m) = length-columns false 8 m
length-field (negsuc n) = length-columns true 8 (suc n)
