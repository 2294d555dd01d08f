-- At rounded binary64 the generic elimination, factor and downdate are the definitions of algebra and filtering. Assumes nothing.
use mathlib.Core.Path.{◌≡◌, refl, ap, ◌∙◌}
use mathlib.Core.Bool.{Bool, true, false, cond}
use mathlib.Core.List.{[], ◌∷◌, ◌++◌}
use Prim.Native.Nat.{ℕ, zero, suc, ◌+◌, ◌-◌}
use lib.Ieee.{Float}
use Rattle.std.specs.Prelude.{Ok, Err}
use Rattle.answer.specs.declared.Refusal.{Refusal}
use Rattle.answer.specs.declared.Refusal.TheVariants.{SingularMatrix}
use Rattle.answer.specs.Answer.{Answer, and_then, mapped, refused_if}
use Rattle.scalar.specs.Number as Number
use Rattle.answer.specs.Table.{pad_to}
use Rattle.answer.specs.Outcome.{onward}
use Rattle.algebra.specs.Matrix as Matrix
use Rattle.algebra.specs.Inverse as Inverse
use Rattle.algebra.specs.Cholesky as Cholesky
use Rattle.filtering.specs.SquareRoot as SquareRoot
use Rattle.textbook.specs.Arithmetic.{rounded}
use Rattle.textbook.specs.Matrices as M
use Rattle.textbook.specs.Elimination as E
use Rattle.textbook.specs.Factor as C
use Rattle.textbook.specs.Downdate as D

pivot_is : (A : Matrix.Matrix) (c d : ℕ) → E.pivot_row rounded A c d ≡ Inverse.pivot_row A c d
unfolding E.pivot_row Inverse.pivot_row
pivot_is A c zero = refl
pivot_is A c (suc d) =
    ap (λ (p : ℕ). cond (rounded.less (rounded.magnitude (Matrix.cell A p c)) (rounded.magnitude (Matrix.cell A (c + suc d) c)))
    (c + suc d) p) (pivot_is A c d)

abbrev to_l : E.Augmented rounded → Inverse.Augmented
to_l w = record { left = w.left; right = w.right }

cleared_is : (n c : ℕ) (w : E.Augmented rounded) → to_l (E.cleared rounded n c w) ≡ Inverse.cleared n c (to_l w)
unfolding E.cleared Inverse.cleared E.reduced Inverse.reduced E.scaled_row Inverse.scaled_row
cleared_is n c w = refl

-- ---- the whole elimination
exchanged_is : (n p c : ℕ) (w : E.Augmented rounded) → to_l (E.exchanged rounded n p c w) ≡ Inverse.exchanged n p c (to_l w)
unfolding E.exchanged Inverse.exchanged E.swapped Inverse.swapped
exchanged_is n p c w = refl

mapped_if : {A B : Type 0} (f : A → B) (b : Bool) (k : Refusal) (a : A) → mapped f (refused_if b k a) ≡ refused_if b k (f a)
mapped_if f true k a = refl
mapped_if f false k a = refl

column_is : (n c : ℕ) (w : E.Augmented rounded) → mapped to_l (E.column rounded n c w) ≡ Inverse.column n c (to_l w)
unfolding E.column Inverse.column
column_is n c w =
    let p = E.pivot_row rounded w.left c (n - suc c) in
    mapped_if to_l (rounded.no_pivot (rounded.magnitude (Matrix.cell w.left p c))) SingularMatrix (E.cleared rounded n c (E.exchanged rounded n p c w))
    ∙ ap (refused_if (rounded.no_pivot (rounded.magnitude (Matrix.cell w.left p c))) SingularMatrix)
    (cleared_is n c (E.exchanged rounded n p c w) ∙ ap (Inverse.cleared n c) (exchanged_is n p c w))
    ∙ ap (λ (q : ℕ). refused_if (Inverse.no_pivot (rounded.magnitude (Matrix.cell w.left q c))) SingularMatrix
    (Inverse.cleared n c (Inverse.exchanged n q c (to_l w)))) (pivot_is w.left c (n - suc c))

mapped-then : {A B C D : Type 0} (f : A → B) (g : C → D) (a : Answer A) (h : A → Answer C) (k : B → Answer D)
    → ((x : A) → mapped g (h x) ≡ k (f x)) → mapped g (and_then a h) ≡ and_then (mapped f a) k
mapped-then f g (Err j) h k e = refl
mapped-then f g (Ok x) h k e = e x

columns_is : (n c : ℕ) (A : Matrix.Matrix) → mapped to_l (E.columns rounded n c A) ≡ Inverse.columns n c A
unfolding E.columns Inverse.columns M.identity Matrix.identity
columns_is n zero A = refl
columns_is n (suc c) A =
    mapped-then to_l to_l (E.columns rounded n c A) (λ w. E.column rounded n c w) (λ w. Inverse.column n c w) (column_is n c)
    ∙ ap (λ (o : Answer Inverse.Augmented). and_then o (λ w. Inverse.column n c w)) (columns_is n c A)

mapped-mapped : {A B C : Type 0} (f : A → B) (g : B → C) (a : Answer A) → mapped (λ x. g (f x)) a ≡ mapped g (mapped f a)
mapped-mapped f g (Err k) = refl
mapped-mapped f g (Ok x) = refl

-- the definition that the code's contract cites is the elimination in rounded arithmetic
pub inv_is : (n : ℕ) (A : Matrix.Matrix) → E.inv rounded n A ≡ Inverse.inv n A
unfolding E.inv Inverse.inv
inv_is n A = mapped-mapped to_l (λ (w : Inverse.Augmented). w.right) (E.columns rounded n n A) ∙ ap (mapped (λ w. w.right)) (columns_is n n A)

-- ---- Cholesky's factor
pub sum_is : (n : ℕ) (f : ℕ → Float) → M.sum_of rounded n f ≡ Matrix.sum_of n f
unfolding M.sum_of Matrix.sum_from
sum_is zero f = refl
sum_is (suc n) f = ap (λ (x : Float). rounded.plus x (f n)) (sum_is n f)

dot_is : (n : ℕ) (v w : Matrix.Vector) → M.dot rounded n v w ≡ Matrix.dot n v w
unfolding M.dot Matrix.dot
dot_is n v w = sum_is n (λ i. rounded.times (Matrix.at v i) (Matrix.at w i))

left_is : (a : Matrix.Vector) (L : Matrix.Matrix) (j : ℕ) → C.left_cells rounded a L j ≡ Cholesky.left_cells a L j
unfolding C.left_cells Cholesky.left_cells
left_is a L zero = refl
left_is a L (suc j) =
    ap (λ (v : Matrix.Vector). v ++ rounded.over (rounded.minus (Matrix.at a j) (M.dot rounded j v (Matrix.row L j))) (Matrix.cell L j j) ∷ [])
    (left_is a L j)
    ∙ ap (λ (x : Float). Cholesky.left_cells a L j ++ rounded.over (rounded.minus (Matrix.at a j) x) (Matrix.cell L j j) ∷ [])
    (dot_is j (Cholesky.left_cells a L j) (Matrix.row L j))

row_is : (n : ℕ) (a : Matrix.Vector) (L : Matrix.Matrix) (i : ℕ) → C.factor_row rounded n a L i ≡ Cholesky.factor_row n a L i
unfolding C.factor_row Cholesky.factor_row C.diagonal_of Cholesky.diagonal_of
row_is n a L i =
    ap (λ (v : Matrix.Vector). mapped (λ x. pad_to n Number.+0 (v ++ x ∷ []))
    (Cholesky.diagonal_of (rounded.minus (Matrix.at a i) (M.dot rounded i v v)))) (left_is a L i)
    ∙ ap (λ (s : Float). mapped (λ x. pad_to n Number.+0 (Cholesky.left_cells a L i ++ x ∷ []))
    (Cholesky.diagonal_of (rounded.minus (Matrix.at a i) s)))
    (dot_is i (Cholesky.left_cells a L i) (Cholesky.left_cells a L i))

rows_is : (n : ℕ) (A : Matrix.Matrix) (i : ℕ) → C.factor_rows rounded n A i ≡ Cholesky.factor_rows n A i
unfolding C.factor_rows Cholesky.factor_rows
rows_is n A zero = refl
rows_is n A (suc i) = λ t. and_then (rows_is n A i t) (λ L. mapped (λ v. L ++ v ∷ []) (row_is n (Matrix.row A i) L i t))

pub cholesky_is : (n : ℕ) (A : Matrix.Matrix) → C.cholesky rounded n A ≡ Cholesky.cholesky n A
unfolding C.cholesky Cholesky.cholesky
cholesky_is n A = rows_is n A n

-- ---- the downdate
rotate_is : (n k : ℕ) (L : Matrix.Matrix) (v : Matrix.Vector) → D.rotate rounded (D.rust rounded) n k L v ≡ SquareRoot.rotate n k L v
unfolding D.rotate D.square D.turned_diagonal D.turned_cell D.turned_factor D.turned_vector SquareRoot.rotate SquareRoot.turned_diagonal
rotate_is n k L v = refl

pub rotated_is : (n k : ℕ) (L : Matrix.Matrix) (v : Matrix.Vector) → D.rotated rounded (D.rust rounded) n k L v ≡ SquareRoot.rotated n k L v
unfolding D.rotated SquareRoot.rotated
rotated_is n zero L v = refl
rotated_is n (suc k) L v = λ t. onward L (rotated_is n k L v t) (λ M w. rotate_is n k M w t)
