-- The laws of a written column. Assumes nothing.
use mathlib.Core.Path.{◌≡◌, refl}
use mathlib.Core.Bool.{Bool, true, false, ◌&&◌}
use Prim.Native.Nat.{ℕ, ◌+◌, ◌-◌, ◌/◌, ◌%◌, ◌^◌, ◌<◌}
use native.Mathlib.Nat.{one-le-pow}
use lib.Dec.{leb, lit<}
use borrow.Author.Tests.{ne_eqb, eq-eqb}
use Rattle.sheets.specs.Field.{reaches, column}

pub reaches-zero : (k m : ℕ) → k ≡ 0 → reaches k m ≡ true
reaches-zero k m e = rw (eq-eqb k 0 e)

pub reaches_on : (k m : ℕ) → (k ≡ 0 → ⊥) → reaches k m ≡ leb (10 ^ k) m
reaches_on k m e = rw (ne_eqb k 0 e)

pub ten : (k : ℕ) → 0 < 10 ^ k
ten k = one-le-pow k 10 (lit< tt)

module _ (s : Bool) (k m : ℕ) where
  pub column_digit : reaches k m ≡ true → column s k m ≡ 48 + m / 10 ^ k % 10
  unfolding column
  column_digit e = rw e

  pub column-minus : reaches k m ≡ false → s ≡ true → reaches (k - 1) m ≡ true → column s k m ≡ 45
  unfolding column
  column-minus e b h = rw (e, b, h)

  pub column_space : reaches k m ≡ false → (s && reaches (k - 1) m) ≡ false → column s k m ≡ 32
  unfolding column
  column_space e h = rw (e, h)

pub space_plain : (s t : Bool) → s ≡ false → (s && t) ≡ false
space_plain s t e = rw e

pub space_far : (s t : Bool) → t ≡ false → (s && t) ≡ false
space_far true t e = e
space_far false t e = refl
