-- A number has one text in a field. Assumes nothing.
use mathlib.Core.Path.{◌≡◌, refl, sym, subst}
use mathlib.Core.Bool.{Bool, true, false, not, ◌&&◌, cond}
use mathlib.Core.List.{List, [], ◌∷◌}
use Rattle.std.specs.Prelude.{Option, None, Some}
use Prim.Native.Nat.{ℕ, zero, suc, ◌+◌, ◌-◌, ◌*◌, ◌/◌, ◌%◌, ◌^◌, ◌≤◌, ◌<◌}
use native.Mathlib.Omega.{arith}
use lib.IntN.{ℤ, pos, negsuc}
use lib.ListN.{length}
use native.Mathlib.Nat.{pow-succ', pow-le-pow_right, lt_of_lt_of_le, mul_assoc, add_assoc, add-mul, one-mul, mul-le-mul_right, zero-mul, zero-add}
use lib.Dec.{leb, eqb, lit<}
use lib.Arith.{digits_div, digits_lt}
use borrow.Author.Tests.{eqb-true, eqb-false, leb-true, le-leb}
use Rattle.sheets.specs.Field.{is_digit, all_digits, decimal, leading_zero, read_digits, positive, negative, read_field, reaches, columns, write_field, holds}
use Rattle.sheets.proofs.Writing.{reaches-zero, column_digit, column-minus, column_space}
use Rattle.sheets.proofs.FieldBack.{reaches_le, reaches-down, far}

digits_parts : (b : ℕ) (bs : List ℕ) → all_digits (b ∷ bs) ≡ true → (is_digit b ≡ true) × (all_digits bs ≡ true)
unfolding all_digits
digits_parts b bs e = go (is_digit b) (all_digits bs) e
  where
    go : (x y : Bool) → (x && y) ≡ true → (x ≡ true) × (y ≡ true)
    go true y h = (refl, h)
    go false y h = let z : ◌≡◌ {A = ℕ} 0 1 = cc in absurd (omega arith)

digit_range : (b : ℕ) → is_digit b ≡ true → (48 ≤ b) × (b ≤ 57)
digit_range b e = go (leb 48 b) (leb b 57) refl refl e
  where
    go : (x y : Bool) → leb 48 b ≡ x → leb b 57 ≡ y → (x && y) ≡ true → (48 ≤ b) × (b ≤ 57)
    go true true p q h = (leb-true 48 b p, leb-true b 57 q)
    go true false p q h = let z : ◌≡◌ {A = ℕ} 0 1 = cc in absurd (omega arith)
    go false y p q h = let z : ◌≡◌ {A = ℕ} 0 1 = cc in absurd (omega arith)

decimal_lt : (ds : List ℕ) → all_digits ds ≡ true → decimal ds < 10 ^ length ds
unfolding decimal
decimal_lt [] e = lit< tt
decimal_lt (b ∷ bs) e =
    let d = digit_range b (digits_parts b bs e).0 in
    rw (pow-succ' 10 (length bs)) (digits_lt {q = b - 48} {m = 10} {r = decimal bs} {c = 10 ^ length bs} (omega arith) (decimal_lt bs (digits_parts b bs e).1))

-- digits after a number q are the last columns of the number that all of them say
same_digits : (s : Bool) (q : ℕ) (ds : List ℕ) → all_digits ds ≡ true
    → ((j : ℕ) → j < length ds → reaches j (q * 10 ^ length ds + decimal ds) ≡ true) → columns s (length ds) (q * 10 ^ length ds + decimal ds) ≡ ds
unfolding columns decimal
same_digits s q [] e r = refl
same_digits s q (b ∷ bs) e r =
    let h = digits_parts b bs e in
    let d = digit_range b h.0 in
    let l = length bs in
    let t : q * 10 ^ suc l + ((b - 48) * 10 ^ l + decimal bs) ≡ (q * 10 + (b - 48)) * 10 ^ l + decimal bs =
    rw (pow-succ' 10 l, ← mul_assoc q 10 (10 ^ l), ← add_assoc (q * 10 * 10 ^ l) ((b - 48) * 10 ^ l) (decimal bs), ← add-mul (q * 10) (b - 48) (10 ^ l)) in
    let lt : decimal bs < 10 ^ l = decimal_lt bs h.1 in
    let v : 48 + ((q * 10 + (b - 48)) * 10 ^ l + decimal bs) / 10 ^ l % 10 ≡ b =
    rw (digits_div (q * 10 + (b - 48)) {m = 10 ^ l} lt) (let y : (q * 10 + (b - 48)) % 10 ≡ b - 48 = omega arith in omega arith) in
    let ih = same_digits s (q * 10 + (b - 48)) bs h.1 (λ j k. rw t at (r j (omega arith))) in
    rw (t, column_digit s l _ (rw t at (r l (omega arith))), v, ih)

record Digits (ds : List ℕ) (m : ℕ) : Type 0 where
  text : (s : Bool) → columns s (length ds) m ≡ ds
  fits : m < 10 ^ length ds
  some_digit : 0 < length ds
  reached : reaches (length ds - 1) m ≡ true

first-reached : (b : ℕ) (bs : List ℕ) → leading_zero b bs ≡ false → 48 ≤ b → reaches (length bs) (decimal (b ∷ bs)) ≡ true
unfolding decimal
first-reached b bs e h = go (eqb (length bs) 0) (eqb b 48) refl refl e
  where
    go : (x y : Bool) → eqb (length bs) 0 ≡ x → eqb b 48 ≡ y → (y && not x) ≡ false → reaches (length bs) ((b - 48) * 10 ^ length bs + decimal bs) ≡ true
    go true y p q k = reaches-zero (length bs) _ (eqb-true (length bs) 0 p)
    go false true p q k = let z : ◌≡◌ {A = ℕ} 0 1 = cc in absurd (omega arith)
    go false false p q k =
        let n : 1 ≤ b - 48 = (let u : b ≡ 48 → ⊥ = eqb-false b 48 q in omega arith) in
        let w : 1 * 10 ^ length bs ≤ (b - 48) * 10 ^ length bs = mul-le-mul_right (10 ^ length bs) n in
        let v : 10 ^ length bs ≤ (b - 48) * 10 ^ length bs = rw one-mul at w in
        reaches_le (length bs) _ (omega arith)

read_digits_lem : (ds : List ℕ) (m : ℕ) → read_digits ds ≡ Some m → Digits ds m
unfolding read_digits
read_digits_lem [] m e = let z : ◌≡◌ {A = ℕ} 0 1 = cc in absurd (omega arith)
read_digits_lem (b ∷ bs) m e = go (leading_zero b bs) (all_digits (b ∷ bs)) refl refl e
  where
    go : (x y : Bool) → leading_zero b bs ≡ x → all_digits (b ∷ bs) ≡ y → cond x None (cond y (Some (decimal (b ∷ bs))) None) ≡ Some m → Digits (b ∷ bs) m
    go true y p q k = let z : ◌≡◌ {A = ℕ} 0 1 = cc in absurd (omega arith)
    go false false p q k = let z : ◌≡◌ {A = ℕ} 0 1 = cc in absurd (omega arith)
    go false true p q k =
        let v : decimal (b ∷ bs) ≡ m = cc in
        let r : reaches (length bs) (decimal (b ∷ bs)) ≡ true = first-reached b bs p (digit_range b (digits_parts b bs q).0).0 in
        let o : suc (length bs) - 1 ≡ length bs = omega arith in
        let w : 0 * 10 ^ suc (length bs) + decimal (b ∷ bs) ≡ decimal (b ∷ bs) = rw (zero-mul, zero-add) in
        subst (λ (n : ℕ). Digits (b ∷ bs) n) v
        (record {
          text = λ s. rw w at (same_digits s 0 (b ∷ bs) q (λ j h. rw w (reaches-down j (length bs) (decimal (b ∷ bs)) (omega arith) r)));
          fits = decimal_lt (b ∷ bs) q;
          some_digit = omega arith;
          reached = rw o r;
        })

-- the one text of a number, in as many bytes as f has
Text : ℤ → List ℕ → Type 0
Text (pos m) f = (columns false (length f) m ≡ f) × (m < 10 ^ length f) × (0 < length f)
Text (negsuc n) f = (columns true (length f) (suc n) ≡ f) × (suc n < 10 ^ (length f - 1)) × (1 < length f)

wider : (i j m : ℕ) → i ≤ j → m < 10 ^ i → m < 10 ^ j
wider i j m h k = lt_of_lt_of_le k (pow-le-pow_right {n = 10} (lit< tt) h)

text_space : (bs : List ℕ) (z : ℤ) → Text z bs → Text z (32 ∷ bs)
unfolding Text columns
text_space bs (pos m) (t, h, p) =
    (rw (column_space false (length bs) m (far (length bs) m h p) refl, t), wider (length bs) (suc (length bs)) m (omega arith) h, omega arith)
text_space bs (negsuc n) (t, h, p) =
    let o : suc (length bs) - 1 ≡ length bs = omega arith in
    let w : suc n < 10 ^ length bs = wider (length bs - 1) (length bs) (suc n) (omega arith) h in (
      rw (column_space true (length bs) (suc n) (far (length bs) (suc n) w (omega arith)) (far (length bs - 1) (suc n) h (omega arith)), t),
      rw o w,
      omega arith,
    )

text-minus : (bs : List ℕ) (n : ℕ) → Digits bs (suc n) → Text (negsuc n) (45 ∷ bs)
unfolding Text columns
text-minus bs n d =
    let o : suc (length bs) - 1 ≡ length bs = omega arith in
    let p = d.some_digit in
    (rw (column-minus true (length bs) (suc n) (far (length bs) (suc n) d.fits p) refl d.reached, d.text true), rw o d.fits, omega arith)

text-plain : (ds : List ℕ) (m : ℕ) → Digits ds m → Text (pos m) ds
unfolding Text
text-plain ds m d = (d.text false, d.fits, d.some_digit)

read-text : (f : List ℕ) (z : ℤ) → read_field f ≡ Some z → Text z f
unfolding read_field
read-text [] z e = let y : ◌≡◌ {A = ℕ} 0 1 = cc in absurd (omega arith)
read-text (b ∷ bs) z e = go (eqb b 32) (eqb b 45) refl refl e (read-text bs z)
  where
    minus : (o : Option ℕ) → read_digits bs ≡ o → negative o ≡ Some z → b ≡ 45 → Text z (b ∷ bs)
    minus None p k y = let q : ◌≡◌ {A = ℕ} 0 1 = cc in absurd (omega arith)
    minus (Some zero) p k y = let q : ◌≡◌ {A = ℕ} 0 1 = cc in absurd (omega arith)
    minus (Some (suc n)) p k y = let q : negsuc n ≡ z = cc in
        subst (λ (w : ℤ). Text w (b ∷ bs)) q (rw y (text-minus bs n (read_digits_lem bs (suc n) p)))

    plain' : (o : Option ℕ) → read_digits (b ∷ bs) ≡ o → positive o ≡ Some z → Text z (b ∷ bs)
    plain' None p k = let q : ◌≡◌ {A = ℕ} 0 1 = cc in absurd (omega arith)
    plain' (Some m) p k = let q : pos m ≡ z = cc in subst (λ (w : ℤ). Text w (b ∷ bs)) q (text-plain (b ∷ bs) m (read_digits_lem (b ∷ bs) m p))

    go : (x y : Bool) → eqb b 32 ≡ x → eqb b 45 ≡ y → cond x (read_field bs) (cond y (negative (read_digits bs)) (positive (read_digits (b ∷ bs)))) ≡ Some z
        → (read_field bs ≡ Some z → Text z bs) → Text z (b ∷ bs)
    go true y p q k ih = rw (eqb-true b 32 p) (text_space bs z (ih k))
    go false true p q k ih = minus (read_digits bs) refl k (eqb-true b 45 q)
    go false false p q k ih = plain' (read_digits (b ∷ bs)) refl k

-- eight bytes that read as a number are the text that is written for it, so two texts of one number are the same
pub field-one : (f : List ℕ) (z : ℤ) → length f ≡ 8 → read_field f ≡ Some z → (f ≡ write_field z) × (holds z ≡ true)
unfolding write_field Text
field-one f (pos m) l e = let t = read-text f (pos m) e in let k : m < 10 ^ 8 = rw l at t.1 in (rw l at (sym t.0), le-leb m 99999999 (omega arith))
field-one f (negsuc n) l e = let t = read-text f (negsuc n) e in let k : suc n < 10 ^ 7 = rw l at t.1 in (rw l at (sym t.0), le-leb (suc n) 9999999 (omega arith))
