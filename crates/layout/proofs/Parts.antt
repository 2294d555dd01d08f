-- Laws of layouts, for any list of parts: where a part lies, the numbers of all parts, and what placing one leaves. Assumes nothing.
use mathlib.Core.Path.{◌≡◌, refl, sym, ap, ap₂, ◌∙◌, subst}
use mathlib.Core.List.{List, [], ◌∷◌, ◌++◌, append_assoc, append-nil}
use mathlib.Core.Bool.{Bool, true, false}
use Prim.Native.Nat.{ℕ, zero, suc, ◌+◌, ◌*◌, ◌≤◌, ◌<◌}
use native.Mathlib.Nat.{not-suc-le-zero, le_of_suc-le-suc}
use native.Mathlib.Omega.{arith}
use lib.Dec.{ltb}
use lib.ListN.{length, get_or, take, drop, length-append, get_or-append}
use lib.Seq.{take-length, take_all, take-add, drop-drop, get_or-append-add}
use lib.Ieee.{Float, nan}
use borrow.Author.Tests.{ltb-true, ltb-false}
use Rattle.answer.specs.Table.{table}
use Rattle.answer.proofs.Tables.{table_ext}
use Rattle.algebra.specs.Matrix.{Matrix, at}
use Rattle.algebra.proofs.Matrices.{Shape}
use Rattle.layout.specs.Layout.{vector_at, matrix_at, joined, placed, Parts, part_rows, part_columns, part_size, total, offset, part_at, pair_parts, slot_parts, filter_parts, pair_length, stride}
use Rattle.layout.proofs.Places.{then-placed, placed-whole}
use Rattle.layout.proofs.Rows.{length-rows, matrix-numbers, matrix-placed, Apart, before, past, matrix-kept, matrix_is, vector_is}

-- ---- where a part lies

-- part k ends where the next begins
pub offset-next : (L : Parts) (k : ℕ) → k < length L → offset L (suc k) ≡ offset L k + part_size L k
offset-next [] k h = absurd (not-suc-le-zero h)
offset-next (s ∷ L) zero h = omega arith
offset-next (s ∷ L) (suc k) h = omega (arith, offset-next L k (le_of_suc-le-suc h))

offset-least : (L : Parts) (j k : ℕ) → j ≤ k → offset L j ≤ offset L k
offset-least L zero k h = omega arith
offset-least L (suc j) zero h = absurd (omega arith)
offset-least [] (suc j) (suc k) h = omega arith
offset-least (s ∷ L) (suc j) (suc k) h = omega (arith, offset-least L j k (le_of_suc-le-suc h))

-- before a later one begins
pub part-before : (L : Parts) (j k : ℕ) → j < k → k ≤ length L → offset L j + part_size L j ≤ offset L k
part-before L j k h g = omega (arith, offset-next L j (omega arith), offset-least L (suc j) k h)

-- and within the whole
pub part-within : (L : Parts) (k : ℕ) → k < length L → offset L k + part_size L k ≤ total L
part-within L k h = omega (arith, part-before L k (length L) h (omega arith), ap total (take-length L))

-- two parts share no number
pub parts-apart : (L : Parts) (j k : ℕ) → j < length L → k < length L → (j ≡ k → ⊥) → Apart (offset L j) (part_size L j) (offset L k) (part_size L k)
parts-apart L j k h g n = by (ltb j k) refl
  where
    by : (t : Bool) → ltb j k ≡ t → Apart (offset L j) (part_size L j) (offset L k) (part_size L k)
    by true e = before (part-before L j k (ltb-true j k e) (omega arith))
    by false e = let l = ltb-false j k e in past (part-before L k j (omega arith) (omega arith))

-- ---- placing a part: it is what was placed, and every other part stands as it was
module _ (L : Parts) (b : List Float) (h : total L ≤ length b) where
  pub part_placed : (k : ℕ) (A : Matrix) → k < length L → Shape (part_rows L k) (part_columns L k) A → part_at L (placed (offset L k) (joined A) b) k ≡ A
  part_placed k A g s = matrix-placed (offset L k) A b s (omega (arith, part-within L k g))

  pub part-kept : (j k : ℕ) (l : List Float) → j < length L → k < length L → (j ≡ k → ⊥) → length l ≡ part_size L k
      → part_at L (placed (offset L k) l b) j ≡ part_at L b j
  part-kept j k l p q n e =
      matrix-kept (offset L k) l b (omega (arith, part-within L k q)) (part_rows L j) (part_columns L j)
      (subst (Apart (offset L j) (part_size L j) (offset L k)) (sym e) (parts-apart L j k p q n))

  -- the parts before part k stand as they were, whatever is placed from there on
  pub earlier_kept : (j k : ℕ) (l : List Float) → j < k → k ≤ length L → offset L k + length l ≤ length b
      → part_at L (placed (offset L k) l b) j ≡ part_at L b j
  earlier_kept j k l p q g = matrix-kept (offset L k) l b g (part_rows L j) (part_columns L j) (before (part-before L j k p q))

-- ---- the numbers of all parts, one after another, are the slice
numbers_from : (L : Parts) (q : ℕ) (b : List Float) → q + total L ≤ length b
    → joined (table (length L) (λ k. joined (matrix_at (part_rows L k) (part_columns L k) b (q + offset L k)))) ≡ take (total L) (drop q b)
numbers_from [] q b h = refl
numbers_from (s ∷ L) q b h =
    let w = s.0 * s.1 in
    let first : q + 0 ≡ q = omega arith in
    ap₂ (λ (x y : List Float). x ++ y)
    (ap (λ (k : ℕ). joined (matrix_at s.0 s.1 b k)) first ∙ matrix-numbers s.0 s.1 q b (omega arith))
    (ap joined
    (table_ext (length L) (λ k. joined (matrix_at (part_rows L k) (part_columns L k) b (q + (w + offset L k))))
    (λ k. joined (matrix_at (part_rows L k) (part_columns L k) b (q + w + offset L k)))
    (λ k p. let here : q + (w + offset L k) ≡ q + w + offset L k = omega arith in ap (λ (j : ℕ). joined (matrix_at (part_rows L k) (part_columns L k) b j)) here))
    ∙ numbers_from L (q + w) b (omega arith)
    ∙ ap (take (total L)) (sym (drop-drop w q b)))
    ∙ sym (take-add w (total L) (drop q b))

pub parts-numbers : (L : Parts) (b : List Float) → length b ≡ total L → joined (table (length L) (λ k. joined (part_at L b k))) ≡ b
parts-numbers L b e =
    ap joined
    (table_ext (length L) (λ k. joined (part_at L b k)) (λ k. joined (matrix_at (part_rows L k) (part_columns L k) b (0 + offset L k)))
    (λ k p. let here : offset L k ≡ 0 + offset L k = omega arith in ap (λ (j : ℕ). joined (matrix_at (part_rows L k) (part_columns L k) b j)) here))
    ∙ numbers_from L 0 b (omega arith)
    ∙ take_all (total L) b (omega arith)

-- ---- lists of numbers that are just as long as the parts
pub data Fits : Parts → List (List Float) → Type 0 where
  none : Fits [] []
  more : {r c : ℕ} {L : Parts} {l : List Float} {m : List (List Float)} → length l ≡ r * c → Fits L m → Fits ((r, c) ∷ L) (l ∷ m)

pub fits-matrix : {r c : ℕ} {L : Parts} {A : Matrix} {m : List (List Float)} → Shape r c A → Fits L m → Fits ((r, c) ∷ L) (joined A ∷ m)
fits-matrix {r} {c} {A = A} s f = more (length-rows r c A s) f

pub fits-vector : {n : ℕ} {L : Parts} {v : List Float} {m : List (List Float)} → length v ≡ n → Fits L m → Fits ((n, 1) ∷ L) (v ∷ m)
fits-vector {n} {v = v} e f = let long : length v ≡ n * 1 = omega arith in more long f

pub fits-total : {L : Parts} {m : List (List Float)} → Fits L m → length (joined m) ≡ total L
fits-total none = refl
fits-total (more {l = l} {m = m} e f) = length-append l (joined m) ∙ omega (arith, e, fits-total f)

fits-offset : {L : Parts} {m : List (List Float)} → Fits L m → (k : ℕ) → length (joined (take k m)) ≡ offset L k
fits-offset f zero = refl
fits-offset none (suc k) = refl
fits-offset (more {l = l} {m = m} e f) (suc k) = length-append l (joined (take k m)) ∙ omega (arith, e, fits-offset f k)

fits-part : {L : Parts} {m : List (List Float)} → Fits L m → (k : ℕ) → k < length L → length (get_or m k []) ≡ part_size L k
fits-part none k h = absurd (not-suc-le-zero h)
fits-part (more e f) zero h = e
fits-part (more e f) (suc k) h = fits-part f k (le_of_suc-le-suc h)

-- number i of part k
at_part : {L : Parts} {m : List (List Float)} → Fits L m → (k : ℕ) → k < length L → (i : ℕ) → i < part_size L k
    → at (joined m) (offset L k + i) ≡ at (get_or m k []) i
at_part none k h i g = absurd (not-suc-le-zero h)
at_part (more {l = l} {m = m} e f) zero h i g =
    let here : 0 + i ≡ i = omega arith in
    ap (at (l ++ joined m)) here ∙ get_or-append l (joined m) nan i (omega (arith, e))
at_part (more {r} {c} {L} {l} {m} e f) (suc k) h i g =
    let here : r * c + offset L k + i ≡ length l + (offset L k + i) = omega (arith, e) in
    ap (at (l ++ joined m)) here ∙ get_or-append-add l (joined m) (offset L k + i) nan ∙ at_part f k (le_of_suc-le-suc h) i g

-- they are read back from the slice that they make: the matrix A in part k, or its n numbers
module _ {L : Parts} {m : List (List Float)} (f : Fits L m) (k : ℕ) (h : k < length L) where
  pub part-back : (A : Matrix) → Shape (part_rows L k) (part_columns L k) A → get_or m k [] ≡ joined A → part_at L (joined m) k ≡ A
  part-back A s e = matrix_is (offset L k) A (joined m) s (λ i g. at_part f k h i g ∙ ap (λ (l : List Float). at l i) e)

  pub numbers-back : {n : ℕ} → length (get_or m k []) ≡ n → vector_at n (joined m) (offset L k) ≡ get_or m k []
  numbers-back {n} e = vector_is (offset L k) (get_or m k []) (joined m) e (λ i g. at_part f k h i (omega (arith, fits-part f k h)))

-- ---- parts placed one after another: b₁ has the first k, and part k is placed next
joined-next : (m : List (List Float)) (k : ℕ) → k < length m → joined (take (suc k) m) ≡ joined (take k m) ++ get_or m k []
joined-next [] k h = absurd (not-suc-le-zero h)
joined-next (l ∷ m) zero h = append-nil l
joined-next (l ∷ m) (suc k) h =
    ap (λ (t : List Float). l ++ t) (joined-next m k (le_of_suc-le-suc h)) ∙ sym (append_assoc l (joined (take k m)) (get_or m k []))

fits-length : {L : Parts} {m : List (List Float)} → Fits L m → length m ≡ length L
fits-length none = refl
fits-length (more e f) = ap suc (fits-length f)

module _ {L : Parts} {m : List (List Float)} (f : Fits L m) (b : List Float) where
  pub next-part : (k : ℕ) {b₁ b₂ : List Float} → k < length L → b₁ ≡ placed 0 (joined (take k m)) b → b₂ ≡ placed (offset L k) (get_or m k []) b₁
      → b₂ ≡ placed 0 (joined (take (suc k) m)) b
  next-part k h p q =
      then-placed (joined (take k m)) (get_or m k []) b (omega arith) (omega (arith, fits-offset f k)) p q
      ∙ ap (λ (t : List Float). placed 0 t b) (sym (joined-next m k (omega (arith, fits-length f))))

  pub all-parts : {b₁ : List Float} → length b ≡ total L → b₁ ≡ placed 0 (joined m) b → b₁ ≡ joined m
  all-parts e p = p ∙ placed-whole (joined m) b (omega (arith, fits-total f))

-- ---- how long the layouts are
pub pair-total : (n : ℕ) → total (pair_parts n) ≡ pair_length n
pair-total n = omega arith

pub slot-total : (n : ℕ) → total (slot_parts n) ≡ stride n
slot-total n = omega arith

pub filter-total : (n m i : ℕ) → total (filter_parts n m i) ≡ n * n + n * i + m * n + n * n + m * m + pair_length n
filter-total n m i = omega arith
