-- Fractions in lowest terms, in which examples are worked without rounding. Definitions only.
-- They are not an exact arithmetic: a root is right only where the fraction is a square.
use Rattle.std.specs.Prelude.{ℕ, zero, suc, ◌*◌, ◌/◌, ◌%◌, Bool, true, false, not, ℤ, pos, negsuc, nat_abs, neg_ℤ, ◌+ℤ◌, ◌-ℤ◌, ◌*ℤ◌}
use Rattle.root.specs.Root.{isqrt}
use Rattle.textbook.specs.Arithmetic.{Arithmetic}

-- `below` is positive
pub record Fraction : Type 0 where
  pub above : ℤ
  pub below : ℕ

-- the greatest common divisor, by Euclid's steps, at most d of them
unfoldable pub divisor : ℕ → ℕ → ℕ → ℕ
divisor zero a b = a
divisor (suc d) a zero = a
divisor (suc d) a (suc b) = divisor d (suc b) (a % suc b)

-- an integer divided by a divisor g
abbrev pub part : ℤ → ℕ → ℤ
part (pos m) g = pos (m / g)
part (negsuc m) g = neg_ℤ (pos (suc m / g))

unfoldable pub lowest : ℤ → ℕ → Fraction
unfolding divisor
lowest a b = let g = divisor 100 (nat_abs a) b in record { above = part a g; below = b / g }

abbrev pub whole : ℤ → Fraction
whole a = record { above = a; below = 1 }

-- k with the sign of an integer
abbrev pub signed : ℤ → ℕ → ℤ
signed (pos m) k = pos k
signed (negsuc m) k = neg_ℤ (pos k)

abbrev pub is_negative : ℤ → Bool
is_negative (pos m) = false
is_negative (negsuc m) = true

-- the numerator of x - y over the product of what stands below
abbrev pub difference : Fraction → Fraction → ℤ
difference x y = x.above *ℤ pos y.below -ℤ y.above *ℤ pos x.below

abbrev pub fractions : Arithmetic
fractions = record {
  Num = Fraction;
  nought = whole (pos 0);
  unit = whole (pos 1);
  none = whole (pos 0);
  plus = λ x y. lowest (x.above *ℤ pos y.below +ℤ y.above *ℤ pos x.below) (x.below * y.below);
  minus = λ x y. lowest (difference x y) (x.below * y.below);
  times = λ x y. lowest (x.above *ℤ y.above) (x.below * y.below);
  over = λ x y. lowest (x.above *ℤ signed y.above y.below) (x.below * nat_abs y.above);
  -- the root of a / b is the root of a × b, over b
  root = λ x. lowest (pos (isqrt 60 (nat_abs x.above * x.below))) x.below;
  magnitude = λ x. record { above = pos (nat_abs x.above); below = x.below };
  less = λ x y. is_negative (difference x y);
  at_most = λ x y. not (is_negative (difference y x));
  no_pivot = λ x. is_negative (difference x (record { above = pos 1; below = 1_000_000 }));
  no_diagonal = λ x. not (is_negative (difference (record { above = pos 0; below = 1 }) x));
}
