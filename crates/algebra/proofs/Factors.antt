-- Laws of Cholesky's factor for callers: its shape, its one refusal, and what of the matrix it reads. Assumes nothing.
use mathlib.Core.Path.{◌≡◌, refl, ap, ◌∙◌}
use mathlib.Core.List.{List, [], ◌∷◌, ◌++◌}
use Prim.Native.Nat.{ℕ, zero, suc, ◌+◌, ◌≤◌, ◌<◌}
use native.Mathlib.Nat.{le_refl}
use native.Mathlib.Numerals.{add-one}
use native.Mathlib.Omega.{arith}
use lib.ListN.{length, length-append}
use lib.Ieee.{Float}
use Rattle.std.specs.Prelude.{Ok, Err}
use Rattle.root.specs.Root.{root}
use Rattle.scalar.specs.Number.{◌⊖◌, ◌⊘◌, +0}
use Rattle.answer.specs.declared.Refusal.{Refusal}
use Rattle.answer.specs.declared.Refusal.TheVariants.{NotPositiveDefinite}
use Rattle.answer.specs.Answer.{and_then, mapped}
use Rattle.answer.specs.Table.{pad_to}
use Rattle.algebra.specs.Matrix.{Vector, Matrix, at, row, cell, dot}
use Rattle.algebra.specs.Array.{used}
use Rattle.answer.proofs.Tables.{length-pad_to}
use Rattle.algebra.proofs.Matrices.{Shape, shape-more}
use Rattle.answer.proofs.Answers.{Told, result, number_of_lem, result_of, told_if, told-then, told-mapped}
use Rattle.algebra.proofs.Arrays.{cell-used}
use Rattle.algebra.proofs.Vectors.{dot_ext}
use Rattle.algebra.specs.Cholesky.{no_diagonal, diagonal_of, left_cells, factor_row, factor_rows, cholesky}

-- ---- shape, and the one refusal
pub length-left : (a : Vector) (L : Matrix) (j : ℕ) → length (left_cells a L j) ≡ j
unfolding left_cells
length-left a L zero = refl
length-left a L (suc j) = length-append (left_cells a L j) _ ∙ (λ i. length-left a L j i + 1) ∙ add-one j

told-diagonal : (d : Float) → Told (λ k. k ≡ NotPositiveDefinite) (λ (_ : Float). Unit {0}) (diagonal_of d)
unfolding diagonal_of
told-diagonal d = told_if (no_diagonal d) NotPositiveDefinite (root d) refl tt

told-row : (n : ℕ) (a : Vector) (L : Matrix) (i : ℕ) → i < n → Told (λ k. k ≡ NotPositiveDefinite) (λ v. length v ≡ n) (factor_row n a L i)
unfolding factor_row
told-row n a L i h =
    let v = left_cells a L i in
    told-mapped (λ x. pad_to n +0 (v ++ x ∷ [])) (told-diagonal (at a i ⊖ dot i v v))
    (λ x _. length-pad_to n +0 (v ++ x ∷ []) (omega (arith, length-append v (x ∷ []), length-left a L i)))

told-rows : (n : ℕ) (A : Matrix) (i : ℕ) → i ≤ n → Told (λ k. k ≡ NotPositiveDefinite) (Shape i n) (factor_rows n A i)
unfolding factor_rows
told-rows n A zero h = result (record { rows = refl; cols = λ i l. absurd (omega arith) })
told-rows n A (suc i) h =
    told-then (told-rows n A i (omega arith)) (λ L s. told-mapped (λ v. L ++ v ∷ []) (told-row n (row A i) L i (omega arith)) (λ v e. shape-more v s e))

pub shape-rows : (n : ℕ) (A : Matrix) (i : ℕ) (L : Matrix) → i ≤ n → factor_rows n A i ≡ Ok L → Shape i n L
shape-rows n A i L h e = result_of (told-rows n A i h) e

pub shape-cholesky : (n : ℕ) (A L : Matrix) → cholesky n A ≡ Ok L → Shape n n L
unfolding cholesky
shape-cholesky n A L e = shape-rows n A n L (le_refl n) e

pub refused-cholesky : (n : ℕ) (A : Matrix) (k : Refusal) → cholesky n A ≡ Err k → k ≡ NotPositiveDefinite
unfolding cholesky
refused-cholesky n A k e = number_of_lem (told-rows n A n (le_refl n)) e

-- ---- what is read: of A the lower triangle, and of the rows above what stands up to their diagonals
pub left_ext : (a b : Vector) (L M : Matrix) (i : ℕ) → ((j : ℕ) → j < i → at a j ≡ at b j) → ((j k : ℕ) → j < i → k ≤ j → cell L j k ≡ cell M j k)
    → left_cells a L i ≡ left_cells b M i
unfolding left_cells
left_ext a b L M zero p q = refl
left_ext a b L M (suc j) p q =
    let v = left_cells a L j in
    let w = left_cells b M j in
    let e : v ≡ w = left_ext a b L M j (λ t h. p t (omega arith)) (λ t k h g. q t k (omega arith) g) in
    let d : dot j v (row L j) ≡ dot j w (row M j) = dot_ext j v (row L j) w (row M j) (λ t h. ap (λ (u : Vector). at u t) e) (λ t h. q j t (omega arith) (omega arith)) in
    λ i. e i ++ ((p j (omega arith) i ⊖ d i) ⊘ q j j (omega arith) (omega arith) i) ∷ []

row_ext : (n : ℕ) (a b : Vector) (L : Matrix) (i : ℕ) → ((j : ℕ) → j ≤ i → at a j ≡ at b j) → factor_row n a L i ≡ factor_row n b L i
unfolding factor_row
row_ext n a b L i p =
    let e : left_cells a L i ≡ left_cells b L i = left_ext a b L L i (λ j h. p j (omega arith)) (λ j k h g. refl) in
    λ t. mapped (λ x. pad_to n +0 (e t ++ x ∷ [])) (diagonal_of (p i (omega arith) t ⊖ dot i (e t) (e t)))

rows_ext : (n : ℕ) (A B : Matrix) (i : ℕ) → ((k j : ℕ) → k < i → j ≤ k → cell A k j ≡ cell B k j) → factor_rows n A i ≡ factor_rows n B i
unfolding factor_rows
rows_ext n A B zero p = refl
rows_ext n A B (suc i) p =
    let e : factor_rows n A i ≡ factor_rows n B i = rows_ext n A B i (λ k j h g. p k j (omega arith) g) in
    λ t. and_then (e t) (λ L. mapped (λ v. L ++ v ∷ []) (row_ext n (row A i) (row B i) L i (λ j h. p i j (omega arith) h) t))

pub cholesky_ext : (n : ℕ) (A B : Matrix) → ((i j : ℕ) → i < n → j ≤ i → cell A i j ≡ cell B i j) → cholesky n A ≡ cholesky n B
unfolding cholesky
cholesky_ext n A B p = rows_ext n A B n p

pub cholesky-used : (n : ℕ) (a : List (List Float)) → cholesky n (used n n a) ≡ cholesky n a
cholesky-used n a = cholesky_ext n (used n n a) a (λ i j h g. cell-used n n a i j h (omega arith))
