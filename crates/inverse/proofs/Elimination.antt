-- Laws of the code's columns, on two arrays of rows whose used parts are the definition's two matrices. Assumes nothing.
use mathlib.Core.Path.{◌≡◌, refl, sym, ap, ◌∙◌}
use mathlib.Core.List.{[]}
use mathlib.Core.Bool.{true, false}
use Prim.Native.Nat.{ℕ, zero, suc, ◌+◌, ◌-◌, ◌≤◌, ◌<◌}
use native.Mathlib.Nat.{le_trans, add-zero, add-suc}
use native.Mathlib.Numerals.{add-one}
use native.Mathlib.Omega.{arith}
use lib.ListN.{length, set, length-set}
use lib.Seq.{get_or-set_same}
use lib.Ieee.{Float, nan}
use Rattle.scalar.specs.Number.{◌⊘◌, one, abs}
use Rattle.std.specs.Prelude.{Ok, Err}
use Rattle.answer.specs.declared.Refusal.{Refusal}
use Rattle.answer.specs.declared.Refusal.TheVariants.{SingularMatrix}
use Rattle.answer.specs.Answer.{Answer, and_then, mapped, refused_if}
use Rattle.answer.specs.Table.{table}
use Rattle.algebra.specs.Matrix.{Vector, Matrix, at, row, cell, identity}
use Rattle.algebra.specs.Array.{cut, used, pad}
use Rattle.matrix.specs.Result.{as_matrix}
use Rattle.sizes.specs.declared.Size.{Size}
use Rattle.sizes.specs.declared.Size.TheVariants.{One, Two, Three, Four}
use Rattle.sizes.specs.Size.{count, part}
use Rattle.sizes.proofs.Sizes.{bounds}
use Rattle.answer.proofs.Tables.{get_or-table, table_ext}
use Rattle.algebra.proofs.Matrices.{Shape, shape-identity}
use Rattle.algebra.proofs.Arrays.{cell-used, identity-used, used_all, used-four}
use Rattle.algebra.specs.Inverse.{no_pivot, pivot_row, scaled_row, reduced, Augmented, ◌beside◌, exchanged, cleared, column, columns, inv}
use Rattle.inverse.specs.Rows.{Scale, Reduce, Bring, Clear, Swept}
use Rattle.answer.proofs.Answers.{same_answer, if_true, if_false}
use Rattle.algebra.proofs.Inverses.{column_ext, inv-shape}
use Rattle.inverse.proofs.Rows.{swapped-used, scaled_used}

-- ---- one column: on one of the arrays, m, which becomes m'

module _ {c : ℕ} {s : Float} {m m' : Matrix} (long : length m ≡ 4) (y : Scale c s m m') where
  turn_scaled : (n : ℕ) → n ≤ 4 → c < n → used n n m' ≡ scaled_row n c s (used n n m)
  turn_scaled n four h = ap (used n n) y.is ∙ scaled_used n m (omega (arith, long)) c s four h

factors_used : (n c : ℕ) (a : Matrix) → n ≤ 4 → c < n → cut n (table 4 (λ i. cell a i c)) ≡ table n (λ i. cell (used n n a) i c)
unfolding cut
factors_used n c a four h =
    table_ext n _ _ (λ i hi. get_or-table 4 (λ k. cell a k c) i nan (le_trans hi four) ∙ sym (cell-used n n a i c hi h))

-- the pivot stands on the diagonal; it and the factors f are read off the left array
pub turn : {c : ℕ} {l l₂ l₃ r r₂ r₃ : Matrix} {f : Vector} → length l ≡ 4 → length r ≡ 4
    → Scale c (one ⊘ cell l c c) l l₂ → Scale c (one ⊘ cell l c c) r r₂
    → f ≡ table 4 (λ i. cell l₂ i c) → Reduce c f l₂ l₃ → Reduce c f r₂ r₃ → Clear c l r l₃ r₃
unfolding cleared
turn {c} {l} {l₂} {l₃} {r} {r₂} {r₃} {f} hl hr y y' e z z' =
    record {
      is =
          λ n four h.
          let s : Float = one ⊘ cell (used n n l) c c in
          let es : one ⊘ cell l c c ≡ s = ap (λ (x : Float). one ⊘ x) (sym (cell-used n n l c c h h)) in
          let eA : used n n l₂ ≡ scaled_row n c s (used n n l) = turn_scaled hl y n four h ∙ (λ k. scaled_row n c (es k) (used n n l)) in
          let eB : used n n r₂ ≡ scaled_row n c s (used n n r) = turn_scaled hr y' n four h ∙ (λ k. scaled_row n c (es k) (used n n r)) in
          let ef = ap (cut n) e ∙ factors_used n c l₂ four h ∙ ap (λ (M : Matrix). table n (λ i. cell M i c)) eA in
          (λ k. z.is n four h k beside z'.is n four h k) ∙ (λ k. reduced n c (ef k) (eA k) beside reduced n c (ef k) (eB k));
      left = z.long;
      right = z'.long;
    }

-- ---- column c on both arrays: its pivot was brought to the diagonal of l₁
module _ {n c : ℕ} {l r l₁ r₁ : Matrix} (most : n ≤ 4) (h : c < n) (long : length l ≡ 4) (as_long : length r ≡ 4) (b : Bring n c l r l₁ r₁) where
  abbrev p : ℕ
  p = pivot_row l c (n - suc c)

  pivot : cell l₁ c c ≡ cell l p c
  pivot =
      let there : c < length (set l p (row l c)) = omega (arith, length-set l p (row l c), long, most) in
      ap (λ (M : Matrix). cell M c c) b.left.is ∙ ap (λ (v : Vector). at v c) (get_or-set_same (set l p (row l c)) c (row l p) [] there)

  parts : (used n n l₁ beside used n n r₁) ≡ exchanged n p c (l beside r)
  unfolding exchanged
  parts =
      λ k.
      (ap (used n n) b.left.is ∙ swapped-used n l (omega (arith, long, most)) p c) k
      beside (ap (used n n) b.right.is ∙ swapped-used n r (omega (arith, as_long, most)) p c) k

  next : column n c (used n n l beside used n n r) ≡ refused_if (no_pivot (abs (cell l₁ c c))) SingularMatrix (cleared n c (used n n l₁ beside used n n r₁))
  unfolding column
  next =
      column_ext n c (used n n l beside used n n r) (l beside r) h (cell-used n n l) (cell-used n n r)
      ∙ sym (λ k. refused_if (no_pivot (abs (pivot k))) SingularMatrix (cleared n c (parts k)))

  pub swept_not : no_pivot (abs (cell l₁ c c)) ≡ true → column n c (used n n l beside used n n r) ≡ Err SingularMatrix
  swept_not t = next ∙ if_true _ _ t

  pub swept : {l' r' : Matrix} → no_pivot (abs (cell l₁ c c)) ≡ false → Clear c l₁ r₁ l' r' → Swept n c l r l' r' (Ok tt)
  swept t v = (next ∙ if_false _ _ t ∙ ap Ok (sym (v.is n most h)), v.left, v.right)

-- ---- the columns

-- n is m
pub inv_at : {n m : ℕ} (a : Matrix) → n ≡ m → as_matrix (inv n (used n n a)) ≡ as_matrix (inv m (used m m a))
inv_at a e = ap (λ (k : ℕ). as_matrix (inv k (used k k a))) e

-- The first c columns of A are done, and l and r are the two arrays
pub record Sweeping (n : ℕ) (A : Matrix) (c : ℕ) (l r : Matrix) : Type 0 where
  pub most : n ≤ 4
  pub within : c ≤ n
  pub left : length l ≡ 4
  pub right : length r ≡ 4
  pub is : columns n c A ≡ Ok (used n n l beside used n n r)

pub sweeping_none : (n : Size) (a : Matrix) {r : Matrix} → r ≡ identity 4 → Sweeping (count n) (part n n a) 0 (table 4 (λ i. row a i)) r
unfolding columns
sweeping_none n a e =
    let m = count n in
    let four = (bounds n).most in
    record {
      most = four;
      within = omega arith;
      left = refl;
      right = ap length e ∙ (shape-identity 4).rows;
      is = sym (λ k. Ok (used-four m m a four k beside (ap (used m m) e ∙ identity-used m four) k));
    }

-- a refusal stands
refused_on : {k : Refusal} (n c d : ℕ) (A : Matrix) → columns n c A ≡ Err k → columns n (c + d) A ≡ Err k
unfolding columns
refused_on n c zero A e = ap (λ (i : ℕ). columns n i A) (add-zero c) ∙ e
refused_on n c (suc d) A e =
    ap (λ (i : ℕ). columns n i A) (add-suc c d) ∙ ap (λ (o : Answer Augmented). and_then o (λ w. column n (c + d) w)) (refused_on n c d A e)

module _ {n : ℕ} {A : Matrix} {c : ℕ} {l r : Matrix} (e : Sweeping n A c l r) where
  one_more : columns n (suc c) A ≡ column n c (used n n l beside used n n r)
  unfolding columns
  one_more = ap (λ (o : Answer Augmented). and_then o (λ w. column n c w)) e.is

  pub sweeping_more : {l' r' : Matrix} → c < n → Swept n c l r l' r' (Ok tt) → Sweeping n A (c + 1) l' r'
  sweeping_more h s =
      record {
        most = e.most;
        within = omega arith;
        left = s.1;
        right = s.2;
        is = ap (λ (i : ℕ). columns n i A) (add-one c) ∙ one_more ∙ s.0;
      }

  pub sweeping_refused : {k : Refusal} → c < n → column n c (used n n l beside used n n r) ≡ Err k → Err k ≡ as_matrix (inv n A)
  unfolding inv
  sweeping_refused h q =
      let all : suc c + (n - suc c) ≡ n = omega arith in
      sym (ap (λ (o : Answer Augmented). as_matrix (mapped (λ w. w.right) o)) (ap (λ (i : ℕ). columns n i A) (sym all) ∙ refused_on n (suc c) (n - suc c) A (one_more ∙ q)))

  -- all columns are done: p is the used part of the right array, as the code hands it over
  pub sweeping_out : {p : Matrix} → n ≤ c → p ≡ pad (used c c r) → Ok p ≡ as_matrix (inv n A)
  unfolding inv
  sweeping_out h q =
      let same : c ≡ n = omega (arith, h, e.within) in
      ap Ok (q ∙ ap (λ (k : ℕ). pad (used k k r)) same)
      ∙ ap (λ (o : Answer Augmented). as_matrix (mapped (λ w. w.right) o)) (sym (ap (λ (i : ℕ). columns n i A) (sym same) ∙ e.is))

-- two columns, and three
module _ {n : ℕ} {A : Matrix} {l r : Matrix} (e : Sweeping n A 0 l r) (many : 3 ≤ n) where
  pub after_two : (l1 r1 : Matrix) {l2 r2 : Matrix} → Swept n 0 l r l1 r1 (Ok tt) → Swept n 1 l1 r1 l2 r2 (Ok tt) → Sweeping n A 2 l2 r2
  after_two l1 r1 s t = sweeping_more (sweeping_more e (omega arith) s) (omega arith) t

  pub after_three : (l1 r1 l2 r2 : Matrix) {l3 r3 : Matrix} → Swept n 0 l r l1 r1 (Ok tt) → Swept n 1 l1 r1 l2 r2 (Ok tt) → Swept n 2 l2 r2 l3 r3 (Ok tt) → Sweeping n A 3 l3 r3
  after_three l1 r1 l2 r2 s t u = sweeping_more (after_two l1 r1 s t) (omega arith) u

-- ---- a result whose rows are read again, all four numbers of each: it stays

four-rows : (n : Size) (A : Matrix) → used 4 4 (pad (part n n A)) ≡ pad (part n n A)
unfolding used cut pad
four-rows One A = refl
four-rows Two A = refl
four-rows Three A = refl
four-rows Four A = refl

read_answer : (n : Size) (o : Answer Matrix) {m : Matrix} → ((B : Matrix) → o ≡ Ok B → Shape (count n) (count n) B) → as_matrix o ≡ Ok m → Ok (used 4 4 m) ≡ as_matrix o
read_answer n (Err k) s q = cc
read_answer n (Ok B) s q =
    let same = used_all (count n) (count n) B (s B refl) in
    ap (λ (M : Matrix). Ok (used 4 4 M)) (sym (same_answer q))
    ∙ ap (λ (A : Matrix). Ok (used 4 4 (pad A))) (sym same) ∙ ap Ok (four-rows n B) ∙ ap (λ (A : Matrix). Ok (pad A)) same

pub inv-read : (n : Size) (a : Matrix) {m : Matrix} {r : Answer Matrix} → r ≡ as_matrix (inv (count n) (part n n a)) → r ≡ Ok m → Ok (used 4 4 m) ≡ as_matrix (inv (count n) (part n n a))
inv-read n a p q = read_answer n (inv (count n) (part n n a)) (inv-shape (count n) (part n n a)) (sym p ∙ q)
