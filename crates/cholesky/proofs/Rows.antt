-- The factorization, one cell of a row and one row at a time. Assumes nothing.
use mathlib.Core.Path.{◌≡◌, refl, sym, ap, ◌∙◌, subst⁻¹}
use mathlib.Core.Bool.{cond}
use mathlib.Core.List.{List, [], ◌∷◌, ◌++◌}
use Prim.Native.Nat.{ℕ, ◌+◌, ◌≤◌, ◌<◌}
use native.Mathlib.Decide.{le_ind}
use native.Mathlib.Numerals.{add-one}
use native.Mathlib.Omega.{arith}
use lib.ListN.{length, set, replicate, length-append}
use lib.Dec.{eqb}
use lib.Ieee.{Float, nan}
use Rattle.scalar.specs.Number.{◌⊖◌, ◌⊘◌, +0}
use Rattle.std.specs.Prelude.{Ok, Err}
use Rattle.answer.specs.declared.Refusal.{Refusal}
use Rattle.answer.specs.Answer.{Answer, and_then, mapped}
use Rattle.answer.specs.Table.{table, pad_to}
use Rattle.algebra.specs.Matrix.{Vector, Matrix, at, row, cell, dot}
use Rattle.algebra.specs.Array.{used, pad_row, pad}
use Rattle.answer.proofs.Tables.{table-get_or, get_or-pad_to, set-pad_to, pad_to-pad_to, length-pad_to}
use Rattle.sizes.specs.declared.Size.{Size}
use Rattle.sizes.specs.Size.{count}
use Rattle.sizes.proofs.Sizes.{bounds}
use Rattle.algebra.proofs.Matrices.{Shape}
use Rattle.algebra.proofs.Vectors.{dot_ext}
use Rattle.answer.proofs.Answers.{same_answer, mapped-refused}
use Rattle.algebra.specs.Cholesky.{diagonal_of, left_cells, factor_row, factor_rows, cholesky}
use Rattle.algebra.proofs.Arrays.{set-pad, cell-pad}
use Rattle.matrix.specs.Result.{as_matrix}
use Rattle.rows.proofs.Kernels.{row-with}
use Rattle.algebra.proofs.Factors.{length-left, left_ext, shape-rows, cholesky-used}

-- ---- a row of the factor left of its diagonal, in an array of four

-- what stands in a row that is filled up, before the filling
at_pad_row : (a : Vector) (L : Matrix) (j t : ℕ) → t < j → at (pad_row (left_cells a L j)) t ≡ at (left_cells a L j) t
at_pad_row a L j t h = get_or-pad_to 4 +0 (left_cells a L j) t nan (subst⁻¹ (λ (k : ℕ). t < k) (length-left a L j) h)

set-left : (a : Vector) (L : Matrix) (j : ℕ) (x : Float) → j < 4 → set (pad_row (left_cells a L j)) j x ≡ pad_row (left_cells a L j ++ x ∷ [])
set-left a L j x h =
    let v = left_cells a L j in
    ap (λ (k : ℕ). set (pad_row v) k x) (sym (length-left a L j)) ∙ set-pad_to 4 +0 v x (subst⁻¹ (λ (k : ℕ). k < 4) (length-left a L j) h)

-- x put behind the cells
put_next : (a : Vector) (L : Matrix) (j : ℕ) (x : Float) {v r : List Float} → j < 4 → v ≡ pad_row (left_cells a L j)
    → r ≡ table 4 (λ t. cond (eqb j t) x (at v t)) → r ≡ pad_row (left_cells a L j ++ x ∷ [])
put_next a L j x h e p =
    let left = left_cells a L j in
    let full : length (pad_row left) ≡ 4 = length-pad_to 4 +0 left (omega (arith, length-left a L j)) in
    p
    ∙ ap (λ (u : Vector). table 4 (λ t. cond (eqb j t) x (at u t))) e
    ∙ row-with (λ t. at (pad_row left) t) j x h
    ∙ ap (λ (u : Vector). set u j x) (ap (λ (k : ℕ). table k (λ t. at (pad_row left) t)) (sym full) ∙ table-get_or (pad_row left) nan)
    ∙ set-left a L j x h

-- no cell yet, and one more
pub left-none : (a : Vector) (L : Matrix) → replicate 4 +0 ≡ pad_row (left_cells a L 0)
unfolding left_cells
left-none a L = refl

left-more : (a : Vector) (L : Matrix) (j : ℕ) {v r : List Float} → j < 4 → v ≡ pad_row (left_cells a L j)
    → r ≡ table 4 (λ t. cond (eqb j t) ((at a j ⊖ dot j v (row L j)) ⊘ cell L j j) (at v t)) → r ≡ pad_row (left_cells a L (j + 1))
unfolding left_cells
left-more a L j {v} h e p =
    let same : dot j v (row L j) ≡ dot j (left_cells a L j) (row L j) =
    ap (λ (u : Vector). dot j u (row L j)) e ∙ dot_ext j _ _ _ _ (λ t g. at_pad_row a L j t g) (λ t g. refl) in
    put_next a L j _ h e (p ∙ ap (λ (y : Float). table 4 (λ t. cond (eqb j t) ((at a j ⊖ y) ⊘ cell L j j) (at v t))) same)
    ∙ ap (λ (k : ℕ). pad_row (left_cells a L k)) (sym (add-one j))

-- one cell, two and three, of a row that begins as none
abbrev none : Vector
none = replicate 4 +0

abbrev Next : Vector → Matrix → ℕ → Vector → Vector → Type 0
Next a L j v r = r ≡ table 4 (λ t. cond (eqb j t) ((at a j ⊖ dot j v (row L j)) ⊘ cell L j j) (at v t))

pub left_one : (a : Vector) (L : Matrix) {r : Vector} → Next a L 0 none r → r ≡ pad_row (left_cells a L 1)
left_one a L e = left-more a L 0 (omega arith) (left-none a L) e

pub left_two : (a : Vector) (L : Matrix) {v r : Vector} → Next a L 0 none v → Next a L 1 v r → r ≡ pad_row (left_cells a L 2)
left_two a L d e = left-more a L 1 (omega arith) (left_one a L d) e

pub left_three : (a : Vector) (L : Matrix) {u v r : Vector} → Next a L 0 none u → Next a L 1 u v → Next a L 2 v r → r ≡ pad_row (left_cells a L 3)
left_three a L c d e = left-more a L 2 (omega arith) (left_two a L c d) e

-- ---- the rows

-- l has the first i rows of the factor of a, and +0 after them
pub record Factoring (n : ℕ) (a : Matrix) (i : ℕ) (l : List (List Float)) : Type 0 where
  pub most : n ≤ 4
  pub within : i ≤ n
  pub rows : Matrix
  pub so_far : factor_rows n a i ≡ Ok rows
  pub is : l ≡ pad rows

pub factoring_none : (s : Size) (a : Matrix) {n : ℕ} → n ≡ count s → Factoring n a 0 (replicate 4 none)
unfolding factor_rows pad
factoring_none s a e = record { most = omega (arith, bounds s); within = omega arith; rows = []; so_far = refl; is = refl }

-- A turn: v is row i left of its diagonal as the code makes it from the array
module _ {n : ℕ} {a : Matrix} {i : ℕ} {l : List (List Float)} (e : Factoring n a i l) (hi : i < n)
    {v : List Float} (p : v ≡ pad_row (left_cells (row a i) l i)) where
  abbrev L : Matrix
  L = e.rows

  abbrev left : Vector
  left = left_cells (row a i) L i

  shape : Shape i n L
  shape = shape-rows n a i L e.within e.so_far

  same_left : v ≡ pad_row left
  same_left =
      p
      ∙ ap (λ (m : Matrix). pad_row (left_cells (row a i) m i)) e.is
      ∙ ap pad_row (left_ext (row a i) (row a i) (pad L) L i (λ j h. refl) (λ j k h g. cell-pad i n L j k shape h (omega arith)))

  same_sum : dot i v v ≡ dot i left left
  same_sum =
      let at_left = at_pad_row (row a i) L i in
      ap (λ (u : Vector). dot i u u) same_left ∙ dot_ext i (pad_row left) (pad_row left) left left at_left at_left

  -- the first i + 1 rows, from what is answered for the diagonal
  abbrev and_row : Answer Float → Answer Matrix
  and_row o = mapped (λ r. L ++ r ∷ []) (mapped (λ x. pad_to n +0 (left ++ x ∷ [])) o)

  next : {o : Answer Float} → diagonal_of (cell a i i ⊖ dot i v v) ≡ o → factor_rows n a (i + 1) ≡ and_row o
  unfolding factor_rows factor_row
  next d =
      ap (factor_rows n a) (add-one i)
      ∙ ap (λ (f : Answer Matrix). and_then f (λ M. mapped (λ r. M ++ r ∷ []) (factor_row n (row a i) M i))) e.so_far
      ∙ ap (λ (x : Float). and_row (diagonal_of (cell a i i ⊖ x))) (sym same_sum)
      ∙ ap and_row d

  factoring_more : {x : Float} {r : List Float} → diagonal_of (cell a i i ⊖ dot i v v) ≡ Ok x → r ≡ table 4 (λ j. cond (eqb i j) x (at v j)) → Factoring n a (i + 1) (set l i r)
  factoring_more {x} d p =
      let w = left ++ x ∷ [] in
      let r = pad_to n +0 w in
      let room : length w ≤ n = omega (arith, length-append left (x ∷ []), length-left (row a i) L i) in
      let stored = put_next (row a i) L i x (omega (arith, e.most)) same_left p ∙ sym (pad_to-pad_to 4 n +0 w room e.most) in
      record {
        most = e.most;
        within = omega arith;
        rows = L ++ r ∷ [];
        so_far = next d;
        is =
            (λ t. set (e.is t) i (stored t))
            ∙ ap (λ (k : ℕ). set (pad L) k (pad_row r)) (sym shape.rows)
            ∙ set-pad L r (omega (arith, shape.rows));
      }

  -- a refusal stands
  factoring_refused : {k : Refusal} → diagonal_of (cell a i i ⊖ dot i v v) ≡ Err k → cholesky n a ≡ Err k
  unfolding cholesky factor_rows
  factoring_refused {k} d =
      le_ind {n = i + 1} (λ m. factor_rows n a m ≡ Err k) (next d)
      (λ m h r. ap (λ (f : Answer Matrix). and_then f (λ M. mapped (λ u. M ++ u ∷ []) (factor_row n (row a m) M m))) r)
      n (omega arith)

factoring_all : {n : ℕ} {a : Matrix} {i : ℕ} {l : List (List Float)} (e : Factoring n a i l) → n ≤ i → cholesky n a ≡ Ok e.rows
unfolding cholesky
factoring_all {n} {a} {i} e h = let same : n ≡ i = omega arith in ap (factor_rows n a) same ∙ e.so_far

-- ---- as a call hands it over: made of the whole array for n rows, it is the factor of the used part, where n is k
factor_at : {n k : ℕ} (a : Matrix) {o : Answer Matrix} → n ≡ k → cholesky n a ≡ o → as_matrix (cholesky k (used k k a)) ≡ as_matrix o
factor_at {n} {k} a e p = ap as_matrix (cholesky-used k a ∙ ap (λ (m : ℕ). cholesky m a) (sym e) ∙ p)

pub all_told : {n k i : ℕ} {a : Matrix} {l : List (List Float)} (e : Factoring n a i l) → n ≤ i → n ≡ k → Ok l ≡ as_matrix (cholesky k (used k k a))
all_told {a = a} e h same = ap Ok e.is ∙ sym (factor_at a same (factoring_all e h))

-- ---- a row as the code makes it: v has its cells left of the diagonal, and o is what is told of the row with its diagonal
was_made : {A B : Type 0} (g : A → B) (o : Answer A) {r : B} → mapped g o ≡ Ok r → (x : A) × (o ≡ Ok x) × (r ≡ g x)
was_made g (Err k) q = cc
was_made g (Ok x) q = (x, refl, same_answer (sym q))

module _ {n : ℕ} {a : Matrix} {i : ℕ} {l : List (List Float)} {v : List Float} {o : Answer (List Float)} (e : Factoring n a i l) (more : i < n)
    (left_is : v ≡ pad_row (left_cells (row a i) l i))
    (made : o ≡ mapped (λ x. table 4 (λ j. cond (eqb i j) x (at v j))) (diagonal_of (cell a i i ⊖ dot i v v))) where
  pub row_made : {r : List Float} → o ≡ Ok r → Factoring n a (i + 1) (set l i r)
  row_made q = let x = was_made _ _ (sym made ∙ q) in factoring_more e more left_is x.1 x.2

  pub row-refused : {j : Refusal} {k : ℕ} → o ≡ Err j → n ≡ k → Err j ≡ as_matrix (cholesky k (used k k a))
  row-refused q same = sym (factor_at a same (factoring_refused e more left_is (mapped-refused _ _ _ (sym made ∙ q))))

-- the first row, which has only its diagonal
pub first_row : (s : Size) (a : Matrix) {n : ℕ} {o : Answer (List Float)} {r : List Float} → n ≡ count s
    → o ≡ mapped (λ x. table 4 (λ j. cond (eqb 0 j) x (at none j))) (diagonal_of (cell a 0 0 ⊖ dot 0 none none)) → o ≡ Ok r
    → Factoring n a 1 (set (replicate 4 none) 0 r)
first_row s a e made q = row_made (factoring_none s a e) (omega (arith, bounds s)) (left-none _ _) made q
