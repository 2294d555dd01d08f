-- The downdate of a factor of two rows, written out, by what its diagonals answer. Assumes nothing.
use mathlib.Core.Path.{◌≡◌, refl, sym, ap, ◌∙◌}
use mathlib.Core.List.{[], ◌∷◌}
use lib.Ieee.{Float}
use Rattle.scalar.specs.Number.{◌⊖◌, ◌⊗◌, ◌⊘◌}
use Rattle.std.specs.Prelude.{Ok, Err}
use Rattle.answer.specs.declared.Refusal.{Refusal}
use Rattle.answer.specs.Answer.{Answer}
use Rattle.answer.specs.Outcome.{Outcome, unchanged, only, done, onward, ◌else_leave◌then◌}
use Rattle.algebra.specs.Matrix.{Vector, Matrix, two_by_two}
use Rattle.filtering.specs.SquareRoot.{turned_diagonal, rotate, rotated}
use Rattle.road.specs.declared.Two.{Two}
use Rattle.road.specs.Road.{matrix_of}
use Rattle.sqrt_road.specs.Road.{turned_of}

module _ (l : Two) (v w : Float) where
  abbrev L : Matrix
  L = matrix_of l

  abbrev vw : Vector
  vw = v ∷ w ∷ []

  -- d is the first column's diagonal: the cell below it, and what is left of w
  abbrev pub below : Float → Float
  below d = (l.c ⊖ v ⊘ l.a ⊗ w) ⊘ (d ⊘ l.a)

  abbrev pub turned : Float → Float
  turned d = d ⊘ l.a ⊗ w ⊖ v ⊘ l.a ⊗ l.c

  abbrev first : Answer Float → Outcome Matrix Vector
  first a = a else_leave unchanged then λ d. done (v ∷ turned d ∷ []) (two_by_two d l.b (below d) l.d)

  abbrev both : Answer Float → Outcome Matrix Vector
  both a = onward L (onward L (only vw) (λ _ _. first a)) (rotate 2 1)

  both_is : rotated 2 2 L vw ≡ both (turned_diagonal (l.a ⊗ l.a ⊖ v ⊗ v))
  unfolding rotated rotate
  both_is = refl

  -- and e the second's
  abbrev second : Float → Answer Float → Outcome Matrix Vector
  second d a = a else_leave unchanged then λ e. done (v ∷ turned d ∷ []) (two_by_two d l.b (below d) e)

  abbrev after : Float → Answer Float → Outcome Matrix Vector
  after d a = onward L (done (v ∷ turned d ∷ []) (two_by_two d l.b (below d) l.d)) (λ _ _. second d a)

  after_is : (d : Float) → both (Ok d) ≡ after d (turned_diagonal (l.d ⊗ l.d ⊖ turned d ⊗ turned d))
  unfolding rotate
  after_is d = refl

  pub first-refused : {k : Refusal} → turned_diagonal (l.a ⊗ l.a ⊖ v ⊗ v) ≡ Err k → (Err k, L) ≡ turned_of L (rotated 2 2 L vw)
  first-refused q = sym (ap (turned_of L) (both_is ∙ ap both q))

  module _ {d : Float} (q : turned_diagonal (l.a ⊗ l.a ⊖ v ⊗ v) ≡ Ok d) where
    by_second : {a : Answer Float} → turned_diagonal (l.d ⊗ l.d ⊖ turned d ⊗ turned d) ≡ a → rotated 2 2 L vw ≡ after d a
    by_second r = both_is ∙ ap both q ∙ after_is d ∙ ap (after d) r

    pub second-refused : {k : Refusal} → turned_diagonal (l.d ⊗ l.d ⊖ turned d ⊗ turned d) ≡ Err k → (Err k, two_by_two d l.b (below d) l.d) ≡ turned_of L (rotated 2 2 L vw)
    second-refused r = sym (ap (turned_of L) (by_second r))

    pub downdated : {e : Float} → turned_diagonal (l.d ⊗ l.d ⊖ turned d ⊗ turned d) ≡ Ok e → (Ok tt, two_by_two d l.b (below d) e) ≡ turned_of L (rotated 2 2 L vw)
    downdated r = sym (ap (turned_of L) (by_second r))
