-- Cholesky's factor of two rows, written out: what the definition comes to there. Assumes nothing.
use mathlib.Core.Path.{◌≡◌, refl, ap, ◌∙◌}
use mathlib.Core.List.{[], ◌∷◌, ◌++◌}
use lib.Ieee.{Float}
use Rattle.scalar.specs.Number.{◌⊕◌, ◌⊖◌, ◌⊗◌, ◌⊘◌, +0}
use Rattle.std.specs.Prelude.{Ok, Err}
use Rattle.answer.specs.Answer.{Answer, and_then, mapped}
use Rattle.answer.specs.Table.{pad_to}
use Rattle.algebra.specs.Matrix.{Vector, Matrix, dot, sum_from, two_by_two}
use Rattle.algebra.specs.Cholesky.{diagonal_of, left_cells, factor_row, factor_rows, cholesky}

-- a number that is answered, made a row and then more; or made a row
then-made : {A B C D : Type 0} (x : Answer A) (g : A → B) (f : B → C) (K : C → Answer D) → and_then (mapped f (mapped g x)) K ≡ and_then x (λ r. K (f (g r)))
then-made (Err k) g f K = refl
then-made (Ok r) g f K = refl

made : {A B C : Type 0} (x : Answer A) (g : A → B) (f : B → C) → mapped f (mapped g x) ≡ mapped (λ r. f (g r)) x
made (Err k) g f = refl
made (Ok r) g f = refl

module _ (a b c d : Float) where
  -- where r is the first diagonal, the cell below it and what is left of the second; then s is the second
  abbrev below : Float → Float
  below r = (c ⊖ +0) ⊘ r

  abbrev second : Float → Answer Matrix
  second r = mapped (λ s. two_by_two r +0 (below r) s) (diagonal_of (d ⊖ (+0 ⊕ below r ⊗ below r)))

  two_is : cholesky 2 (two_by_two a b c d) ≡ and_then (diagonal_of (a ⊖ +0)) second
  unfolding cholesky factor_rows factor_row left_cells dot sum_from
  two_is =
      then-made (diagonal_of (a ⊖ +0)) (λ x. pad_to 2 +0 (x ∷ [])) (λ v. v ∷ [])
      (λ (L : Matrix). mapped (λ (v : Vector). L ++ v ∷ []) (factor_row 2 (c ∷ d ∷ []) L 1))
      ∙ λ i. and_then (diagonal_of (a ⊖ +0)) (λ r. made (diagonal_of (d ⊖ (+0 ⊕ below r ⊗ below r))) (λ x. pad_to 2 +0 (below r ∷ x ∷ [])) (λ v. (r ∷ +0 ∷ []) ∷ v ∷ []) i)

  -- by what the diagonals are
  pub at_first : {w : Answer Float} → diagonal_of (a ⊖ +0) ≡ w → cholesky 2 (two_by_two a b c d) ≡ and_then w second
  at_first q = two_is ∙ ap (λ w. and_then w second) q

  pub at_second : {r : Float} {w : Answer Float} → diagonal_of (a ⊖ +0) ≡ Ok r → diagonal_of (d ⊖ (+0 ⊕ below r ⊗ below r)) ≡ w
      → cholesky 2 (two_by_two a b c d) ≡ mapped (λ s. two_by_two r +0 (below r) s) w
  at_second {r} q e = at_first q ∙ ap (mapped (λ s. two_by_two r +0 (below r) s)) e
