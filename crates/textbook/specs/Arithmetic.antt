-- Numbers with + - × ÷ and a root, in any arithmetic: rounded, or exact. Definitions only.
-- The tests for a pivot and for a diagonal are fields: which numbers they refuse is the arithmetic's.
use Rattle.std.specs.Prelude.{◌≡◌, Bool, true, false, Float}
use Rattle.std.specs.Float.{nan}
use Rattle.std.specs.Float.Ieee.{lt, le}
use Rattle.root.specs.Root as Root
use Rattle.scalar.specs.Number.{◌⊕◌, ◌⊖◌, ◌⊗◌, ◌⊘◌}
use Rattle.scalar.specs.Number as Number
use Rattle.algebra.specs.Inverse as Inverse
use Rattle.algebra.specs.Cholesky as Cholesky

-- `none` stands outside a matrix, and is never read
pub record Arithmetic : Type 1 where
  pub Num : Type 0
  pub nought : Num
  pub unit : Num
  pub none : Num
  pub plus : Num → Num → Num
  pub minus : Num → Num → Num
  pub times : Num → Num → Num
  pub over : Num → Num → Num
  pub root : Num → Num
  pub magnitude : Num → Num
  pub less : Num → Num → Bool
  pub at_most : Num → Num → Bool
  -- a pivot of this magnitude is refused; so is what is left of a diagonal
  pub no_pivot : Num → Bool
  pub no_diagonal : Num → Bool

-- binary64, one rounding an operation
abbrev pub rounded : Arithmetic
rounded = record {
  Num = Float;
  nought = Number.+0;
  unit = Number.one;
  none = nan;
  plus = λ x y. x ⊕ y;
  minus = λ x y. x ⊖ y;
  times = λ x y. x ⊗ y;
  over = λ x y. x ⊘ y;
  root = Root.root;
  magnitude = Number.abs;
  less = lt;
  at_most = le;
  no_pivot = Inverse.no_pivot;
  no_diagonal = Cholesky.no_diagonal;
}

-- No rounding: the laws of a field; the square of a root above zero; zero is not above zero; and neither test lets zero pass
pub record Exact (N : Arithmetic) : Type 0 where
  pub plus_assoc : (x y z : N.Num) → N.plus (N.plus x y) z ≡ N.plus x (N.plus y z)
  pub plus_comm : (x y : N.Num) → N.plus x y ≡ N.plus y x
  pub plus-nought : (x : N.Num) → N.plus x N.nought ≡ x
  pub minus_plus : (x y : N.Num) → N.plus (N.minus x y) y ≡ x
  pub times-assoc : (x y z : N.Num) → N.times (N.times x y) z ≡ N.times x (N.times y z)
  pub times-comm : (x y : N.Num) → N.times x y ≡ N.times y x
  pub times-unit : (x : N.Num) → N.times x N.unit ≡ x
  pub times-plus : (x y z : N.Num) → N.times x (N.plus y z) ≡ N.plus (N.times x y) (N.times x z)
  pub over-times : (x y : N.Num) → (y ≡ N.nought → ⊥) → N.times (N.over x y) y ≡ x
  pub root-times : (x : N.Num) → N.at_most x N.nought ≡ false → N.times (N.root x) (N.root x) ≡ x
  pub not_above : N.at_most N.nought N.nought ≡ true
  pub above : (x : N.Num) → N.no_diagonal x ≡ false → N.at_most x N.nought ≡ false
  pub no_pivot_of_zero : N.no_pivot (N.magnitude N.nought) ≡ true
