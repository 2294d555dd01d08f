-- Laws of vectors and matrices in a slice: the numbers that they take, and that what is placed is what is read. Assumes nothing.
use mathlib.Core.Path.{◌≡◌, refl, sym, ap, ap₂, ◌∙◌, subst}
use mathlib.Core.List.{List, [], ◌∷◌, ◌++◌, append_assoc, append-nil}
use Prim.Native.Nat.{ℕ, zero, suc, ◌+◌, ◌*◌, ◌≤◌, ◌<◌, suc-le-suc}
use native.Mathlib.Nat.{mul-le-mul_right, suc-mul, not-suc-le-zero, le_of_suc-le-suc, zero-lt-suc}
use native.Mathlib.Omega.{arith}
use lib.ListN.{length, take, drop, length-append, length-drop, get_or-append}
use lib.Seq.{take-add, drop-drop, length-take-le, get_or-append-add, get_or-take, get_or-drop}
use lib.Ieee.{Float, nan}
use Rattle.answer.specs.Table.{table}
use Rattle.answer.proofs.Tables.{table_ext, table-get_or}
use Rattle.algebra.specs.Matrix.{Matrix, at, row, cell}
use Rattle.algebra.specs.Array.{cut, used}
use Rattle.algebra.proofs.Matrices.{Shape, mat_ext}
use Rattle.algebra.proofs.Arrays.{used_all}
use Rattle.layout.specs.Layout.{vector_at, matrix_at, joined, placed}
use Rattle.layout.proofs.Places.{placed-after, placed-before, length-placed, at_placed, at_before, at_past}

-- ---- rows joined
pub joined-more : (i : ℕ) (f : ℕ → List Float) → joined (table (suc i) f) ≡ joined (table i f) ++ f i
joined-more zero f = append-nil (f zero)
joined-more (suc i) f =
    ap (λ (t : List Float). f zero ++ t) (joined-more i (λ j. f (suc j))) ∙ sym (append_assoc (f zero) (joined (table i (λ j. f (suc j)))) (f (suc i)))

pub length-joined : (i w : ℕ) (f : ℕ → List Float) → ((j : ℕ) → j < i → length (f j) ≡ w) → length (joined (table i f)) ≡ i * w
length-joined zero w f e = omega arith
length-joined (suc i) w f e =
    length-append (f zero) (joined (table i (λ j. f (suc j))))
    ∙ omega (arith, e zero (omega arith), length-joined i w (λ j. f (suc j)) (λ j h. e (suc j) (omega arith)), suc-mul i w)

pub length-rows : (r c : ℕ) (A : Matrix) → Shape r c A → length (joined A) ≡ r * c
length-rows r c A s =
    ap (λ (M : Matrix). length (joined M)) (sym (table-get_or A []))
    ∙ length-joined (length A) c (λ i. row A i) (λ i h. s.cols i (subst (λ (k : ℕ). i < k) s.rows h))
    ∙ ap (λ (k : ℕ). k * c) s.rows

-- row k of n, each of w numbers, ends within all of them
pub ends-within : {k n : ℕ} (w : ℕ) → k < n → k * w + w ≤ n * w
ends-within {k} {n} w h = omega (arith, mul-le-mul_right w h, suc-mul k w)

-- row i, number j, of rows of c numbers
at_joined : (c : ℕ) (A : Matrix) → ((k : ℕ) → k < length A → length (row A k) ≡ c) → (i j : ℕ) → i < length A → j < c → at (joined A) (i * c + j) ≡ cell A i j
at_joined c [] h i j p q = absurd (not-suc-le-zero p)
at_joined c (v ∷ A) h zero j p q =
    let e : zero * c + j ≡ j = omega arith in
    ap (at (v ++ joined A)) e ∙ get_or-append v (joined A) nan j (omega (arith, h zero p))
at_joined c (v ∷ A) h (suc i) j p q =
    let e : suc i * c + j ≡ length v + (i * c + j) = omega (arith, h zero (zero-lt-suc (length A)), suc-mul i c) in
    ap (at (v ++ joined A)) e
    ∙ get_or-append-add v (joined A) (i * c + j) nan
    ∙ at_joined c A (λ k l. h (suc k) (suc-le-suc l)) i j (le_of_suc-le-suc p) q

-- ---- the numbers of a slice that a vector or a matrix takes
pub vector-numbers : (n k : ℕ) (b : List Float) → k + n ≤ length b → vector_at n b k ≡ take n (drop k b)
vector-numbers n k b h =
    let l = take n (drop k b) in
    let long : length l ≡ n = length-take-le n (drop k b) (omega (arith, length-drop k b)) in
    table_ext n (λ i. at b (k + i)) (λ i. at l i) (λ i p. sym (get_or-take n (drop k b) i nan p ∙ get_or-drop k b i nan))
    ∙ ap (λ (m : ℕ). table m (λ i. at l i)) (sym long)
    ∙ table-get_or l nan

pub matrix-numbers : (r c k : ℕ) (b : List Float) → k + r * c ≤ length b → joined (matrix_at r c b k) ≡ take (r * c) (drop k b)
matrix-numbers zero c k b h = let none : 0 ≡ zero * c = omega arith in ap (λ (m : ℕ). take m (drop k b)) none
matrix-numbers (suc r) c k b h =
    let whole : c + r * c ≡ suc r * c = omega (arith, suc-mul r c) in
    ap₂ (λ (x y : List Float). x ++ y)
    (table_ext c (λ j. at b (k + zero * c + j)) (λ j. at b (k + j)) (λ j p. let here : k + zero * c + j ≡ k + j = omega arith in ap (at b) here)
    ∙ vector-numbers c k b (omega (arith, suc-mul r c)))
    (ap joined
    (mat_ext r c (λ i j. at b (k + suc i * c + j)) (λ i j. at b (k + c + i * c + j))
    (λ i j p q. let here : k + suc i * c + j ≡ k + c + i * c + j = omega (arith, suc-mul i c) in ap (at b) here))
    ∙ matrix-numbers r c (k + c) b (omega (arith, suc-mul r c))
    ∙ ap (take (r * c)) (sym (drop-drop c k b)))
    ∙ sym (take-add c (r * c) (drop k b))
    ∙ ap (λ (m : ℕ). take m (drop k b)) whole

-- a vector is a column
pub column-numbers : (n k : ℕ) (b : List Float) → joined (matrix_at n 1 b k) ≡ vector_at n b k
column-numbers zero k b = refl
column-numbers (suc n) k b =
    let first : k + zero * 1 + zero ≡ k + zero = omega arith in
    ap₂ {C = List Float} (λ x t. x ∷ t) (ap (at b) first)
    (ap joined
    (mat_ext n 1 (λ i j. at b (k + suc i * 1 + j)) (λ i j. at b (suc k + i * 1 + j))
    (λ i j p q. let here : k + suc i * 1 + j ≡ suc k + i * 1 + j = omega arith in ap (at b) here))
    ∙ column-numbers n (suc k) b
    ∙ table_ext n (λ i. at b (suc k + i)) (λ i. at b (k + suc i)) (λ i p. let here : suc k + i ≡ k + suc i = omega arith in ap (at b) here))

-- ---- the numbers from number k on are those of v, and of A: they are what is read there
pub vector_is : {n : ℕ} (k : ℕ) (v b : List Float) → length v ≡ n → ((i : ℕ) → i < n → at b (k + i) ≡ at v i) → vector_at n b k ≡ v
vector_is {n} k v b e h = table_ext n (λ i. at b (k + i)) (λ i. at v i) h ∙ ap (λ (m : ℕ). table m (λ i. at v i)) (sym e) ∙ table-get_or v nan

pub matrix_is : {r c : ℕ} (k : ℕ) (A : Matrix) (b : List Float) → Shape r c A → ((i : ℕ) → i < r * c → at b (k + i) ≡ at (joined A) i) → matrix_at r c b k ≡ A
unfolding used cut
matrix_is {r} {c} k A b s h =
    mat_ext r c (λ i j. at b (k + i * c + j)) (λ i j. cell A i j)
    (λ i j p q.
    let here : k + i * c + j ≡ k + (i * c + j) = omega arith in
    ap (at b) here
    ∙ h (i * c + j) (omega (arith, ends-within {k = i} {n = r} c p))
    ∙ at_joined c A (λ m l. s.cols m (subst (λ (n : ℕ). m < n) s.rows l)) i j (omega (arith, s.rows)) q)
    ∙ used_all r c A s

-- a vector that is the whole slice
pub whole-vector : (n : ℕ) (b : List Float) → length b ≡ n → vector_at n b 0 ≡ b
whole-vector n b e = vector_is 0 b b e (λ i h. let here : 0 + i ≡ i = omega arith in ap (at b) here)

-- ---- what was placed from number k on is what is read there
pub vector-placed : {n : ℕ} (k : ℕ) (v b : List Float) → length v ≡ n → k + n ≤ length b → vector_at n (placed k v b) k ≡ v
vector-placed {n} k v b e h = vector_is k v (placed k v b) e (λ i p. at_placed k v b (omega arith) i (omega arith))

pub matrix-placed : {r c : ℕ} (k : ℕ) (A : Matrix) (b : List Float) → Shape r c A → k + r * c ≤ length b → matrix_at r c (placed k (joined A) b) k ≡ A
matrix-placed {r} {c} k A b s h =
    let long = length-rows r c A s in
    matrix_is k A (placed k (joined A) b) s (λ i p. at_placed k (joined A) b (omega arith) i (omega arith))

-- a state x, then its covariance P
module _ {n : ℕ} (k : ℕ) (x : List Float) (P : Matrix) (b : List Float) (e : length x ≡ n) (s : Shape n n P) (h : k + (n + n * n) ≤ length b) where
  pub state-placed : vector_at n (placed k (x ++ joined P) b) k ≡ x
  state-placed =
      let c = placed (k + length x) (joined P) b in
      let long = length-placed (k + length x) (joined P) b (omega (arith, length-rows n n P s)) in
      ap (λ (t : List Float). vector_at n t k) (sym (placed-before k x (joined P) b (omega arith))) ∙ vector-placed k x c e (omega arith)

  pub covariance-placed : matrix_at n n (placed k (x ++ joined P) b) (k + n) ≡ P
  covariance-placed =
      let long = length-placed k x b (omega arith) in
      let here : k + n ≡ k + length x = omega arith in
      ap₂ (λ (t : List Float) (j : ℕ). matrix_at n n t j) (sym (placed-after k x (joined P) b (omega arith))) here
      ∙ matrix-placed (k + length x) P (placed k x b) s (omega arith)

-- ---- numbers placed elsewhere: n numbers from number k on and m from number q on share none
pub data Apart (k n q m : ℕ) : Type 0 where
  before : k + n ≤ q → Apart k n q m
  past : q + m ≤ k → Apart k n q m

module _ (q : ℕ) (l b : List Float) (h : q + length l ≤ length b) where
  at_kept : {k n : ℕ} → Apart k n q (length l) → (i : ℕ) → i < n → at (placed q l b) (k + i) ≡ at b (k + i)
  at_kept {k} (before e) i g = at_before q l b h (k + i) (omega arith)
  at_kept {k} (past e) i g = at_past q l b h (k + i) (omega arith)

  pub matrix-kept : {k : ℕ} (r c : ℕ) → Apart k (r * c) q (length l) → matrix_at r c (placed q l b) k ≡ matrix_at r c b k
  matrix-kept {k} r c a =
      mat_ext r c (λ i j. at (placed q l b) (k + i * c + j)) (λ i j. at b (k + i * c + j))
      (λ i j p g.
      let here : k + i * c + j ≡ k + (i * c + j) = omega arith in
      ap (at (placed q l b)) here ∙ at_kept a (i * c + j) (omega (arith, ends-within {k = i} {n = r} c p)) ∙ ap (at b) (sym here))
