-- Laws of the inverse, for its callers: it reads the n × n part alone, it has that shape, and it is refused with 3 alone. Assumes nothing.
use mathlib.Core.Path.{◌≡◌, refl, ap, ◌∙◌}
use mathlib.Core.Bool.{cond}
use Prim.Native.Nat.{ℕ, zero, suc, ◌-◌, ◌<◌}
use native.Mathlib.Omega.{arith}
use lib.Dec.{eqb}
use Rattle.std.specs.Prelude.{Ok, Err}
use Rattle.scalar.specs.Number.{abs}
use Rattle.answer.specs.declared.Refusal.{Refusal}
use Rattle.answer.specs.declared.Refusal.TheVariants.{SingularMatrix}
use Rattle.answer.specs.Answer.{Answer, and_then, mapped, refused_if}
use Rattle.algebra.specs.Matrix.{Matrix, cell, identity}
use Rattle.algebra.specs.Array.{used}
use Rattle.algebra.proofs.Matrices.{Shape, shape-mat, shape-identity, mat_ext}
use Rattle.algebra.proofs.Arrays.{cell-used}
use Rattle.answer.proofs.Answers.{Told, result, number_of_lem, result_of, told_if, told-then, told-mapped}
use Rattle.algebra.specs.Inverse.{no_pivot, pivot_row, swapped, reduced, Augmented, ◌beside◌, exchanged, cleared, column, columns, inv}
use Rattle.algebra.proofs.Pivots.{pivot-within, pivot_ext}

-- ---- what it reads

-- two matrices have the same cells in the n × n part
abbrev pub Alike : ℕ → Matrix → Matrix → Type 0
Alike n A B = (i j : ℕ) → i < n → j < n → cell A i j ≡ cell B i j

swapped_ext : (n p c : ℕ) (A B : Matrix) → p < n → c < n → Alike n A B → swapped n p c A ≡ swapped n p c B
unfolding swapped
swapped_ext n p c A B hp hc e = mat_ext n n _ _ (λ i j hi hj k. cond (eqb i c) (e p j hp hj k) (cond (eqb i p) (e c j hc hj k) (e i j hi hj k)))

pub column_ext : (n c : ℕ) (w v : Augmented) → c < n → Alike n w.left v.left → Alike n w.right v.right → column n c w ≡ column n c v
unfolding column exchanged
column_ext n c w v h e f =
    let p = pivot_row v.left c (n - suc c) in
    let hp : p < n = omega (arith, pivot-within v.left c (n - suc c)) in
    ap (λ (q : ℕ). refused_if (no_pivot (abs (cell w.left q c))) SingularMatrix (cleared n c (exchanged n q c w)))
    (pivot_ext w.left v.left c (n - suc c) (λ i l. e i c (omega arith) h))
    ∙ (λ k. refused_if (no_pivot (abs (e p c hp h k))) SingularMatrix
    (cleared n c (swapped_ext n p c w.left v.left hp h e k beside swapped_ext n p c w.right v.right hp h f k)))

columns_ext : (n c : ℕ) (A B : Matrix) → c < n → Alike n A B → columns n (suc c) A ≡ columns n (suc c) B
unfolding columns
columns_ext n zero A B h e = column_ext n 0 (A beside identity n) (B beside identity n) h e (λ i j hi hj. refl)
columns_ext n (suc c) A B h e = ap (λ (o : Answer Augmented). and_then o (λ w. column n (suc c) w)) (columns_ext n c A B (omega arith) e)

pub inv_ext : (n : ℕ) (A B : Matrix) → Alike n A B → inv n A ≡ inv n B
unfolding inv columns
inv_ext zero A B e = refl
inv_ext (suc n) A B e = ap (mapped (λ w. w.right)) (columns_ext (suc n) n A B (omega arith) e)

pub inv-used : (n : ℕ) (a : Matrix) → inv n (used n n a) ≡ inv n a
inv-used n a = inv_ext n (used n n a) a (cell-used n n a)

-- ---- what it refuses, and its shape
told-column : (n c : ℕ) (w : Augmented) → Told (λ k. k ≡ SingularMatrix) (λ v. Shape n n v.right) (column n c w)
unfolding column cleared reduced
told-column n c w =
    let p = pivot_row w.left c (n - suc c) in
    told_if (no_pivot (abs (cell w.left p c))) SingularMatrix (cleared n c (exchanged n p c w)) refl (shape-mat n n _)

told-columns : (n c : ℕ) (A : Matrix) → Told (λ k. k ≡ SingularMatrix) (λ v. Shape n n v.right) (columns n c A)
unfolding columns
told-columns n zero A = result (shape-identity n)
told-columns n (suc c) A = told-then (told-columns n c A) (λ w _. told-column n c w)

told-inv : (n : ℕ) (A : Matrix) → Told (λ k. k ≡ SingularMatrix) (Shape n n) (inv n A)
unfolding inv
told-inv n A = told-mapped (λ w. w.right) (told-columns n n A) (λ w s. s)

pub inv-refused : (n : ℕ) (A : Matrix) (k : Refusal) → inv n A ≡ Err k → k ≡ SingularMatrix
inv-refused n A k e = number_of_lem (told-inv n A) e

pub inv-shape : (n : ℕ) (A B : Matrix) → inv n A ≡ Ok B → Shape n n B
inv-shape n A B e = result_of (told-inv n A) e
