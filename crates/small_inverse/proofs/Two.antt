-- The inverse at the sizes 1 and 2, written out: what the definition comes to there. Assumes nothing.
use mathlib.Core.Path.{◌≡◌, refl, sym, ap, ◌∙◌}
use mathlib.Core.Bool.{Bool, true, false, cond}
use Prim.Native.Nat.{ℕ}
use lib.Ieee.{Float, lt}
use Rattle.std.specs.Prelude.{Ok, Err}
use Rattle.answer.specs.declared.Refusal.TheVariants.{SingularMatrix}
use Rattle.answer.specs.Answer.{Answer, and_then, mapped, refused_if}
use Rattle.scalar.specs.Number.{◌⊖◌, ◌⊗◌, ◌⊘◌, one, +0, abs}
use Rattle.algebra.specs.Matrix.{Matrix, cell, identity, one_by_one, two_by_two}
use Rattle.algebra.specs.Array.{used}
use Rattle.algebra.specs.Inverse.{no_pivot, pivot_row, swapped, scaled_row, reduced, Augmented, ◌beside◌, exchanged, cleared, column, columns, inv}
use Rattle.algebra.proofs.Arrays.{used_all}
use Rattle.algebra.proofs.Inverses.{inv-shape}
use Rattle.small_inverse.specs.Two.{over, inv_number, from_diagonal}

-- the right part after the test of a pivot, by the number that goes on: after the last step, and with a step more to come
module _ (w : Augmented) (s : Float) where
  last : (b : Bool) (g : Float → Matrix) → w.right ≡ g s → mapped (λ v. v.right) (refused_if b SingularMatrix w) ≡ mapped g (refused_if b SingularMatrix s)
  last true g e = refl
  last false g e = ap Ok e

  before : (b : Bool) (f : Augmented → Answer Augmented) (g : Float → Answer Matrix) → mapped (λ v. v.right) (f w) ≡ g s
      → mapped (λ v. v.right) (and_then (refused_if b SingularMatrix w) f) ≡ and_then (refused_if b SingularMatrix s) g
  before true f g e = refl
  before false f g e = e

one_is : (x : Float) → inv 1 (one_by_one x) ≡ mapped (λ s. one_by_one (one ⊗ s)) (over x)
unfolding inv columns column exchanged swapped cleared scaled_row reduced pivot_row identity
one_is x = last (cleared 1 0 (exchanged 1 0 0 (one_by_one x beside identity 1))) (one ⊘ x) (no_pivot (abs x)) (λ s. one_by_one (one ⊗ s)) refl

-- as a number: a matrix of one cell is told by its cell
mapped-mapped : {A B C : Type 0} (f : A → B) (g : B → C) (a : Answer A) → mapped g (mapped f a) ≡ mapped (λ x. g (f x)) a
mapped-mapped f g (Err k) = refl
mapped-mapped f g (Ok x) = refl

pub inv_number_is : (x : Float) → inv_number x ≡ mapped (λ s. one ⊗ s) (over x)
unfolding inv_number
inv_number_is x = ap (mapped (λ W. cell W 0 0)) (one_is x) ∙ mapped-mapped (λ s. one_by_one (one ⊗ s)) (λ W. cell W 0 0) (over x)

pub number_is : (x : Float) → inv 1 (one_by_one x) ≡ mapped one_by_one (inv_number x)
number_is x = one_is x ∙ sym (ap (mapped one_by_one) (inv_number_is x) ∙ mapped-mapped (λ s. one ⊗ s) one_by_one (over x))

-- from one over the pivot of the first column, s, the pivot of the second column; and with one over that, t, what comes to stand
-- in the second row and in the first, in column j of the right part
module _ (A B : Matrix) (s : Float) where
  abbrev pub second : Float
  second = cell A 1 1 ⊖ cell A 1 0 ⊗ (cell A 0 1 ⊗ s)

  abbrev bottom : Float → ℕ → Float
  bottom t j = (cell B 1 j ⊖ cell A 1 0 ⊗ (cell B 0 j ⊗ s)) ⊗ t

  abbrev top : Float → ℕ → Float
  top t j = cell B 0 j ⊗ s ⊖ cell A 0 1 ⊗ s ⊗ bottom t j

  abbrev pub inverted : Float → Matrix
  inverted t = two_by_two (top t 0) (top t 1) (bottom t 0) (bottom t 1)

pub diagonal_is : (A B : Matrix) → from_diagonal A B ≡ and_then (over (cell A 0 0)) (λ s. mapped (inverted A B s) (over (second A B s)))
unfolding from_diagonal column exchanged swapped cleared scaled_row reduced pivot_row
diagonal_is A B =
    let s = one ⊘ cell A 0 0 in
    let w = cleared 2 0 (A beside B) in
    before w s (no_pivot (abs (cell A 0 0))) (λ w. column 2 1 w) (λ s. mapped (inverted A B s) (over (second A B s)))
    (last (cleared 2 1 (exchanged 2 1 1 w)) (one ⊘ second A B s) (no_pivot (abs (second A B s))) (inverted A B s) refl)

-- the first column's pivot in row p, whichever that is
module _ (A : Matrix) where
  from : ℕ → Answer Matrix
  from p = mapped (λ w. w.right) (and_then (refused_if (no_pivot (abs (cell A p 0))) SingularMatrix (cleared 2 0 (exchanged 2 p 0 (A beside identity 2)))) (λ w. column 2 1 w))

  choice : (b : Bool) → from (cond b 1 0) ≡ cond b (from 1) (from 0)
  choice true = refl
  choice false = refl

two_is : (a b c d : Float) → inv 2 (two_by_two a b c d)
    ≡ cond (lt (abs a) (abs c)) (from_diagonal (two_by_two c d a b) (two_by_two +0 one one +0)) (from_diagonal (two_by_two a b c d) (two_by_two one +0 +0 one))
unfolding inv columns pivot_row column exchanged swapped identity from from_diagonal
two_is a b c d = choice (two_by_two a b c d) (lt (abs a) (abs c))

-- the rows exchanged or not, number by number
module _ (a b c d : Float) where
  abbrev pub picked : Bool → Answer Matrix
  picked t = from_diagonal (two_by_two (cond t c a) (cond t d b) (cond t a c) (cond t b d)) (two_by_two (cond t +0 one) (cond t one +0) (cond t one +0) (cond t +0 one))

  each : (t : Bool) → picked t ≡ cond t (from_diagonal (two_by_two c d a b) (two_by_two +0 one one +0)) (from_diagonal (two_by_two a b c d) (two_by_two one +0 +0 one))
  each true = refl
  each false = refl

  pub exchange_two : {t : Bool} → t ≡ lt (abs a) (abs c) → picked t ≡ inv 2 (two_by_two a b c d)
  exchange_two {t} e = ap picked e ∙ each (lt (abs a) (abs c)) ∙ sym (two_is a b c d)

-- its four cells, read one by one
pub two_read : (A : Matrix) {W : Matrix} → inv 2 A ≡ Ok W → Ok (used 2 2 W) ≡ inv 2 A
two_read A {W} q = ap Ok (used_all 2 2 W (inv-shape 2 A W q)) ∙ sym q
