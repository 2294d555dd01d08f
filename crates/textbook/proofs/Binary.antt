-- The field of two elements has the laws of exact arithmetic. Assumes nothing.
use mathlib.Core.Path.{◌≡◌, refl}
use mathlib.Core.Bool.{Bool, true, false, not, ◌&&◌}
use Rattle.textbook.specs.Arithmetic.{Exact}
use Rattle.textbook.specs.Binary.{xor, binary}

pub binary-exact : Exact binary
unfolding xor
binary-exact = record {
  plus_assoc = assoc;
  plus_comm = comm;
  plus-nought = nothing;
  minus_plus = back;
  times-assoc = and_assoc;
  times-comm = and_comm;
  times-unit = and_true;
  times-plus = distrib;
  over-times = back-again;
  root-times = own;
  not_above = refl;
  above = passed;
  no_pivot_of_zero = refl;
}
  where
    passed : (x : Bool) → not x ≡ false → not (x && true) ≡ false
    passed true e = refl
    passed false e = e

    assoc : (x y z : Bool) → xor (xor x y) z ≡ xor x (xor y z)
    assoc true true true = refl
    assoc true true false = refl
    assoc true false z = refl
    assoc false y z = refl

    comm : (x y : Bool) → xor x y ≡ xor y x
    comm true true = refl
    comm true false = refl
    comm false true = refl
    comm false false = refl

    nothing : (x : Bool) → xor x false ≡ x
    nothing true = refl
    nothing false = refl

    back : (x y : Bool) → xor (xor x y) y ≡ x
    back true true = refl
    back true false = refl
    back false true = refl
    back false false = refl

    and_assoc : (x y z : Bool) → (x && y) && z ≡ x && (y && z)
    and_assoc true y z = refl
    and_assoc false y z = refl

    and_comm : (x y : Bool) → x && y ≡ y && x
    and_comm true true = refl
    and_comm true false = refl
    and_comm false true = refl
    and_comm false false = refl

    and_true : (x : Bool) → x && true ≡ x
    and_true true = refl
    and_true false = refl

    distrib : (x y z : Bool) → x && xor y z ≡ xor (x && y) (x && z)
    distrib true y z = refl
    distrib false y z = refl

    back-again : (x y : Bool) → (y ≡ false → ⊥) → (x && y) && y ≡ x
    back-again true true h = refl
    back-again false true h = refl
    back-again true false h = absurd (h refl)
    back-again false false h = absurd (h refl)

    own : (x : Bool) → not (x && true) ≡ false → x && x ≡ x
    own true e = refl
    own false e = refl
