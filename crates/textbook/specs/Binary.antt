-- The field of two elements, as an arithmetic: `binary-exact` in proofs/Binary.antt shows that it has the laws of `Exact`. Definitions only.
use Rattle.std.specs.Prelude.{Bool, true, false, not, ◌&&◌}
use Rattle.textbook.specs.Arithmetic.{Arithmetic}

unfoldable pub xor : Bool → Bool → Bool
xor true y = not y
xor false y = y

abbrev pub binary : Arithmetic
binary = record {
  Num = Bool;
  nought = false;
  unit = true;
  none = false;
  plus = xor;
  minus = xor;
  times = λ x y. x && y;
  over = λ x y. x && y;
  root = λ x. x;
  magnitude = λ x. x;
  less = λ x y. not x && y;
  at_most = λ x y. not (x && not y);
  no_pivot = λ x. not x;
  no_diagonal = λ x. not x;
}
