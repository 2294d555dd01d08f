-- The code's two tests of a position, by the size m * up e / down e of a float. Assumes nothing.
use Rattle.std.proofs.Common.{◌≡◌, ℕ, zero, suc, ◌+◌, ◌*◌, ◌≤◌, Bool, true, false, ◌&&◌, ◌||◌, T, eqb, ltb, leb, ℤ, pos, sym, refl, subst, mul-one, arith, ltb-false, ltb-true, lt-ltb, eqb-true, le-leb}
use Rattle.std.specs.Prelude.{None, Some}
use lib.Ieee.{Float, fin, up, down, lt, eq, le}
use lib.Ieee.Fits.{down_pos}
use borrow.Author.Tests.{eqb-false, lt-leb}
use Rattle.sheets.specs.Metres.{signed, keep}

abbrev pub big_f : Float
big_f = fin false 78125 (pos 7)

abbrev pub low_f : Float
low_f = fin true 9999999 (pos 0)

unfoldable pub under_big : Bool → ℕ → ℕ → Bool
under_big false a d = ltb a (10000000 * d)
under_big true a d = true

pub lt_big : (s : Bool) (m : ℕ) (e : ℤ) → lt (fin s m e) big_f ≡ under_big s (m * up e) (down e)
unfolding lt under_big
lt_big false m e = rw (mul-one (m * up e))
lt_big true m e = let p = down_pos e in lt-ltb 0 (m * up e * 1 + 10000000 * down e) (omega arith)

unfoldable pub low-under : Bool → ℕ → ℕ → Bool
low-under false a d = true
low-under true a d = leb a (9999999 * d)

pub low_le : (s : Bool) (m : ℕ) (e : ℤ) → le low_f (fin s m e) ≡ low-under s (m * up e) (down e)
unfolding le lt eq low-under
low_le false m e = let p = down_pos e in rw (lt-ltb 0 (9999999 * down e + m * up e * 1) (omega arith))
low_le true m e = rw (mul-one (m * up e)) (go (9999999 * down e) (m * up e))
  where
    go : (b a : ℕ) → (ltb a b || (eqb b a && (true || eqb b 0))) ≡ leb a b
    go b a = by (ltb a b) (eqb b a) refl refl
      where
        by : (x y : Bool) → ltb a b ≡ x → eqb b a ≡ y → (x || (y && true)) ≡ leb a b
        by true y p q = let h = ltb-true a b p in sym (le-leb a b (omega arith))
        by false true p q = let h = eqb-true b a q in sym (le-leb a b (omega arith))
        by false false p q = let h = ltb-false a b p in let n : b ≡ a → ⊥ = eqb-false b a q in sym (lt-leb a b (omega arith))

pub no : {A : Type 0} → ◌≡◌ {A = Bool} true false → A
no e = let z : ◌≡◌ {A = ℕ} 0 1 = cc in absurd (omega arith)

pub far-below : (n : ℕ) → 10000000 ≤ n → keep (Some (signed true n)) ≡ None
far-below zero h = absurd (omega arith)
far-below (suc n) h = rw (lt-leb (suc n) 9999999 h)

pub near-below : (n : ℕ) → n ≤ 9999999 → keep (Some (signed true n)) ≡ Some (signed true n)
near-below zero h = refl
near-below (suc n) h = rw (le-leb (suc n) 9999999 h)

pub holds : (b : Bool) → b ≡ true → T b
holds b e = subst T (sym e) tt
