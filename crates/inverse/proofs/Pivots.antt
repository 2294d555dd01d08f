-- Laws of the code's search for a column's pivot, which goes over four rows and passes those from n on. Assumes nothing.
use mathlib.Core.Path.{◌≡◌, refl, subst}
use mathlib.Core.Bool.{true, false}
use Prim.Native.Nat.{ℕ, ◌+◌, ◌≤◌, ◌<◌}
use native.Mathlib.Omega.{arith}
use lib.Ieee.{Float, lt}
use Rattle.scalar.specs.Number.{abs}
use Rattle.algebra.specs.Matrix.{Matrix, cell}
use Rattle.algebra.proofs.Pivots.{best, Leading, leading_first, leading_passed, leading_kept, leading_all}

-- A loop has gone through the rows c to i - 1, of which those below n count: its invariant
pub record Searching (A : Matrix) (c n i p : ℕ) (x : Float) : Type 0 where
  pub after : c < i
  pub passed : ℕ
  pub is : Leading A c n passed p x
  pub until : i ≤ n → passed ≡ i
  pub done : n ≤ i → passed ≡ n

searching : {A : Matrix} {c n i p : ℕ} {x : Float} → Leading A c n i p x → Searching A c n i p x
searching {i = i} e = record { after = e.after; passed = i; is = e; until = λ k. refl; done = λ k. omega (arith, e.within, k) }

pub searching-first : (A : Matrix) (c n : ℕ) {x : Float} → c < n → x ≡ abs (cell A c c) → Searching A c n (c + 1) c x
searching-first A c n h e = searching (leading_first A c n h e)

module _ {A : Matrix} {c n i p : ℕ} {x : Float} (e : Searching A c n i p x) where
  pub searching-past : n ≤ i → Searching A c n (i + 1) p x
  searching-past h =
      record { after = omega (arith, e.after); passed = e.passed; is = e.is; until = λ k. omega (arith, h, k); done = λ k. e.done h }

  pub searching-all : n ≤ i → (p ≡ best A c n) × (p < n)
  searching-all h = leading_all e.is (omega (arith, e.done h))

  module _ (h : i < n) {y : Float} (v : y ≡ abs (cell A i c)) where
    counted : Leading A c n i p x
    counted = subst (λ (k : ℕ). Leading A c n k p x) (e.until (omega arith)) e.is

    pub searching-passed : lt x y ≡ true → Searching A c n (i + 1) i y
    searching-passed t = searching (leading_passed counted h v t)

    pub searching-kept : lt x y ≡ false → Searching A c n (i + 1) p x
    searching-kept t = searching (leading_kept counted h v t)

pub ruleset searches = (searching-first, searching-past, searching-passed, searching-kept, searching-all)
