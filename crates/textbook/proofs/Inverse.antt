-- In exact arithmetic what elimination answers is the inverse: A × B and B × A are the identity. Assumes nothing.
use mathlib.Core.Path.{◌≡◌, refl, sym, ap, ap₂, ◌∙◌}
use mathlib.Core.Bool.{Bool, true, false, cond}
use mathlib.Core.List.{List}
use Prim.Native.Nat.{ℕ, zero, suc, ◌+◌, ◌-◌, ◌≤◌, ◌<◌}
use native.Mathlib.Nat.{le_refl}
use native.Mathlib.Omega.{arith}
use lib.Dec.{eqb}
use borrow.Author.Tests.{eq-eqb, ne_eqb, eqb-true, eqb-false}
use Rattle.answer.specs.declared.Refusal.TheVariants.{SingularMatrix}
use Rattle.answer.proofs.Choice.{cond-true, cond-false, never}
use Rattle.answer.specs.Answer.{refused_if}
use Rattle.answer.specs.Table.{table}
use Rattle.answer.proofs.Tables.{get_or-table}
use Rattle.answer.proofs.Answers.{Told, number, result, told-then, told-mapped}
use Rattle.textbook.specs.Arithmetic.{Arithmetic, Exact}
use Rattle.textbook.specs.Matrices as M
use Rattle.textbook.specs.Elimination as E
use Rattle.textbook.proofs.Field as F
use Rattle.textbook.proofs.Cells as C
use Rattle.textbook.proofs.Products as Pr
use Rattle.textbook.proofs.RowOps as R

module _ (N : Arithmetic) (X : Exact N) (n : ℕ) where
  abbrev Cells : Type 0
  Cells = R.Cells N X n

  abbrev Same : Cells → Cells → Type 0
  Same = R.Same N X n

  abbrev cells : M.Mat N → Cells
  cells A i j = M.cell N A i j

  abbrev delta : Cells
  delta = Pr.delta N X

  cell-mat : (f : Cells) → Same (cells (M.mat N n n f)) f
  cell-mat f = C.cell-mat N n n f

  delta-times : (f : Cells) → Same (R.product N X n delta f) f
  delta-times f i j hi hj = Pr.pick N X i (λ t. f t j) n hi

  -- ---- the pivot's row
  pivot-range : (A : M.Mat N) (c d : ℕ) → (c ≤ E.pivot_row N A c d) × (E.pivot_row N A c d ≤ c + d)
  unfolding E.pivot_row
  pivot-range A c zero = (le_refl c, omega arith)
  pivot-range A c (suc d) =
      by (N.less (N.magnitude (M.cell N A (E.pivot_row N A c d) c)) (N.magnitude (M.cell N A (c + suc d) c))) (pivot-range A c d)
    where
      by : (b : Bool) → (c ≤ E.pivot_row N A c d) × (E.pivot_row N A c d ≤ c + d)
          → (c ≤ cond b (c + suc d) (E.pivot_row N A c d)) × (cond b (c + suc d) (E.pivot_row N A c d) ≤ c + suc d)
      by true r = (omega arith, le_refl (c + suc d))
      by false r = (r.0, omega (arith, r.1))

  -- ---- what is reached after c columns: one row operation makes both parts, and the left part's first c columns are the identity's
  pub record Reached (A : M.Mat N) (c : ℕ) (w : E.Augmented N) : Type 0 where
    pub op : R.RowOp N X n
    pub left : Same (cells w.left) (op.act (cells A))
    pub right : Same (cells w.right) (op.act delta)
    pub clear : (i j : ℕ) → i < n → j < c → M.cell N w.left i j ≡ delta i j

  module _ (A : M.Mat N) (c : ℕ) (hc : c < n) (w : E.Augmented N) (r : Reached A c w) (p : ℕ) (low : c ≤ p) (hp : p < n)
      (passes : N.no_pivot (N.magnitude (M.cell N w.left p c)) ≡ false) where
    abbrev w₁ : E.Augmented N
    w₁ = E.exchanged N n p c w

    abbrev pivot : N.Num
    pivot = M.cell N w₁.left c c

    abbrev s : N.Num
    s = N.over N.unit pivot

    abbrev A₂ : M.Mat N
    A₂ = E.scaled_row N n c s w₁.left

    abbrev B₂ : M.Mat N
    B₂ = E.scaled_row N n c s w₁.right

    abbrev f : List N.Num
    f = table n (λ i. M.cell N A₂ i c)

    abbrev g : ℕ → N.Num
    g i = M.at N f i

    left₁ : Same (cells w₁.left) (R.swap N X n p c (cells w.left))
    unfolding E.exchanged E.swapped
    left₁ = cell-mat (R.swap N X n p c (cells w.left))

    right₁ : Same (cells w₁.right) (R.swap N X n p c (cells w.right))
    unfolding E.exchanged E.swapped
    right₁ = cell-mat (R.swap N X n p c (cells w.right))

    left₂ : Same (cells A₂) (R.scale N X n c s (cells w₁.left))
    unfolding E.scaled_row
    left₂ = cell-mat (R.scale N X n c s (cells w₁.left))

    right₂ : Same (cells B₂) (R.scale N X n c s (cells w₁.right))
    unfolding E.scaled_row
    right₂ = cell-mat (R.scale N X n c s (cells w₁.right))

    pivot_is : pivot ≡ M.cell N w.left p c
    pivot_is = left₁ c c hc hc ∙ cond-true (M.cell N w.left p c) _ (eq-eqb c c refl)

    inverted : N.times pivot s ≡ N.unit
    inverted = X.times-comm pivot s ∙ X.over-times N.unit pivot nonzero
      where
        test : N.Num → Bool
        test x = N.no_pivot (N.magnitude x)

        nonzero : pivot ≡ N.nought → ⊥
        nonzero e = never (sym passes ∙ ap test (sym pivot_is ∙ e) ∙ X.no_pivot_of_zero)

    swap-op : R.RowOp N X n
    swap-op = R.swapping N X n p c hp hc

    scale-op : R.RowOp N X n
    scale-op = R.scaling N X n c hc pivot s inverted

    reduce-op : R.RowOp N X n
    reduce-op = R.reducing N X n c hc g

    whole : R.RowOp N X n
    whole = R.then N X n (R.then N X n (R.then N X n r.op swap-op) scale-op) reduce-op

    abbrev next : E.Augmented N
    next = E.cleared N n c w₁

    left₃ : Same (cells next.left) (R.reduce N X n c g (cells A₂))
    unfolding E.cleared E.reduced
    left₃ = cell-mat (R.reduce N X n c g (cells A₂))

    right₃ : Same (cells next.right) (R.reduce N X n c g (cells B₂))
    unfolding E.cleared E.reduced
    right₃ = cell-mat (R.reduce N X n c g (cells B₂))

    left-whole : Same (cells next.left) (whole.act (cells A))
    unfolding whole swap-op scale-op reduce-op R.then R.swapping R.scaling R.reducing
    left-whole =
        R.same_then N X n left₃
        (reduce-op.act-same (R.same_then N X n left₂ (scale-op.act-same (R.same_then N X n left₁ (swap-op.act-same r.left)))))

    right-whole : Same (cells next.right) (whole.act delta)
    unfolding whole swap-op scale-op reduce-op R.then R.swapping R.scaling R.reducing
    right-whole =
        R.same_then N X n right₃
        (reduce-op.act-same (R.same_then N X n right₂ (scale-op.act-same (R.same_then N X n right₁ (swap-op.act-same r.right)))))

    -- ---- the left part's columns up to c
    none_at : (i j : ℕ) → (i ≡ j → ⊥) → delta i j ≡ N.nought
    none_at i j h = cond-false N.unit N.nought (ne_eqb i j h)

    pivot-row : (j : ℕ) → j < n → M.cell N A₂ c j ≡ N.times (M.cell N w.left p j) s
    pivot-row j hj =
        left₂ c j hc hj
        ∙ cond-true (N.times (M.cell N w₁.left c j) s) _ (eq-eqb c c refl)
        ∙ ap (λ (x : N.Num). N.times x s) (left₁ c j hc hj ∙ cond-true (M.cell N w.left p j) _ (eq-eqb c c refl))

    at_pivot : M.cell N A₂ c c ≡ N.unit
    at_pivot = pivot-row c hc ∙ ap (λ (x : N.Num). N.times x s) (sym pivot_is) ∙ inverted

    before-pivot : (j : ℕ) → j < c → M.cell N A₂ c j ≡ N.nought
    before-pivot j h =
        pivot-row j (omega arith)
        ∙ ap (λ (x : N.Num). N.times x s) (r.clear p j hp h ∙ none_at p j (λ e. omega arith))
        ∙ F.nought-times N X s

    kept : (i j : ℕ) → i < n → j < c → (i ≡ c → ⊥) → M.cell N A₂ i j ≡ delta i j
    kept i j hi h d =
        let hj : j < n = omega arith in
        left₂ i j hi hj
        ∙ cond-false (N.times (M.cell N w₁.left c j) s) _ (ne_eqb i c d)
        ∙ left₁ i j hi hj
        ∙ cond-false (M.cell N w.left p j) _ (ne_eqb i c d)
        ∙ by (eqb i p) refl
      where
        by : (b : Bool) → eqb i p ≡ b → cond (eqb i p) (M.cell N w.left c j) (M.cell N w.left i j) ≡ delta i j
        by true e =
            let same : i ≡ p = eqb-true i p e in
            cond-true (M.cell N w.left c j) _ e ∙ r.clear c j hc h ∙ none_at c j (λ q. omega arith) ∙ sym (none_at i j (λ q. omega arith))
        by false e = cond-false (M.cell N w.left c j) _ e ∙ r.clear i j hi h

    factor : (i : ℕ) → i < n → g i ≡ M.cell N A₂ i c
    factor i hi = get_or-table n (λ k. M.cell N A₂ k c) i N.none hi

    cleared-here : (i j : ℕ) → i < n → j < suc c → M.cell N next.left i j ≡ delta i j
    cleared-here i j hi h = left₃ i j hi (omega arith) ∙ by (eqb i c) (eqb j c) refl refl
      where
        by : (b d : Bool) → eqb i c ≡ b → eqb j c ≡ d → R.reduce N X n c g (cells A₂) i j ≡ delta i j
        by true true e q =
            let i-is : i ≡ c = eqb-true i c e in
            let j-is : j ≡ c = eqb-true j c q in
            cond-true (M.cell N A₂ c j) _ e ∙ ap (M.cell N A₂ c) j-is ∙ at_pivot
            ∙ sym (cond-true N.unit N.nought (eq-eqb i j (i-is ∙ sym j-is)))
        by true false e q =
            let i-is : i ≡ c = eqb-true i c e in
            let differ : j ≡ c → ⊥ = eqb-false j c q in
            cond-true (M.cell N A₂ c j) _ e ∙ before-pivot j (omega (arith, differ)) ∙ sym (none_at i j (λ z. differ (sym z ∙ i-is)))
        by false true e q =
            let differ : i ≡ c → ⊥ = eqb-false i c e in
            let j-is : j ≡ c = eqb-true j c q in
            cond-false (M.cell N A₂ c j) _ e
            ∙ ap₂ N.minus (ap (M.cell N A₂ i) j-is)
            (ap₂ N.times (factor i hi) (ap (M.cell N A₂ c) j-is ∙ at_pivot) ∙ X.times-unit (M.cell N A₂ i c))
            ∙ F.minus-self N X (M.cell N A₂ i c)
            ∙ sym (none_at i j (λ z. differ (z ∙ j-is)))
        by false false e q =
            let differ : i ≡ c → ⊥ = eqb-false i c e in
            let before : j ≡ c → ⊥ = eqb-false j c q in
            let hj : j < c = omega (arith, before) in
            cond-false (M.cell N A₂ c j) _ e
            ∙ ap (λ (x : N.Num). N.minus (M.cell N A₂ i j) (N.times (g i) x)) (before-pivot j hj)
            ∙ ap (N.minus (M.cell N A₂ i j)) (F.times-nought N X (g i))
            ∙ F.minus-nought N X (M.cell N A₂ i j)
            ∙ kept i j hi hj differ

    pub more : Reached A (suc c) next
    more = record { op = whole; left = left-whole; right = right-whole; clear = cleared-here }

  -- ---- every column, and the theorem
  start : (A : M.Mat N) → Reached A 0 (record { left = A; right = M.identity N n })
  unfolding R.nothing M.identity
  start A = record { op = R.nothing N X n; left = λ i j hi hj. refl; right = cell-mat delta; clear = λ i j hi h. absurd (omega arith) }

  one-column : (A : M.Mat N) (c : ℕ) → c < n → (w : E.Augmented N) → Reached A c w → Told (λ k. Unit {0}) (Reached A (suc c)) (E.column N n c w)
  unfolding E.column
  one-column A c hc w r = by (N.no_pivot (N.magnitude (M.cell N w.left p c))) refl
    where
      p : ℕ
      p = E.pivot_row N w.left c (n - suc c)

      by : (b : Bool) → N.no_pivot (N.magnitude (M.cell N w.left p c)) ≡ b
          → Told (λ k. Unit {0}) (Reached A (suc c)) (refused_if b SingularMatrix (E.cleared N n c (E.exchanged N n p c w)))
      by true e = number tt
      by false e = let q = pivot-range w.left c (n - suc c) in result (more A c hc w r p q.0 (omega (arith, q.1)) e)

  all-columns : (A : M.Mat N) (c : ℕ) → c ≤ n → Told (λ k. Unit {0}) (Reached A c) (E.columns N n c A)
  unfolding E.columns
  all-columns A zero h = result (start A)
  all-columns A (suc c) h = told-then (all-columns A c (omega arith)) (λ w r. one-column A c h w r)

  reached-inverse : (A : M.Mat N) (w : E.Augmented N) → Reached A n w → M.Inverse N n A w.right
  unfolding M.mul M.identity
  reached-inverse A w r = record { before = listed B-A; after = listed A-B }
    where
      B : Cells
      B = cells w.right

      is_identity : Same (cells w.left) delta
      is_identity i j hi hj = r.clear i j hi hj

      listed : {f g : Cells} → Same f g → M.mat N n n f ≡ M.mat N n n g
      listed {f} {g} e = C.mat_ext N n n f g e

      same : (f : Cells) → Same f f
      same f i j hi hj = refl

      -- B A = do I × A = do (I A) = do A = left = I
      B-A : Same (R.product N X n B (cells A)) delta
      B-A =
          R.same_then N X n (R.product-same N X n r.right (same (cells A)))
          (R.same_then N X n (R.same_back N X n (r.op.act-product delta (cells A)))
          (R.same_then N X n (r.op.act-same (delta-times (cells A))) (R.same_then N X n (R.same_back N X n r.left) is_identity)))

      -- A = undo left = undo I
      A_is : Same (cells A) (r.op.undo delta)
      A_is =
          R.same_then N X n (R.same_back N X n (r.op.undone (cells A)))
          (r.op.undo-same (R.same_then N X n (R.same_back N X n r.left) is_identity))

      -- A B = undo I × B = undo (I B) = undo B = undo (do I) = I
      A-B : Same (R.product N X n (cells A) B) delta
      A-B =
          R.same_then N X n (R.product-same N X n A_is (same B))
          (R.same_then N X n (R.same_back N X n (r.op.undo-product delta B))
          (R.same_then N X n (r.op.undo-same (R.same_then N X n (delta-times B) r.right)) (r.op.undone delta)))

  -- in exact arithmetic, what inversion answers is the inverse
  pub told-inverse : (A : M.Mat N) → Told (λ k. Unit {0}) (M.Inverse N n A) (E.inv N n A)
  unfolding E.inv
  told-inverse A = told-mapped (λ w. w.right) (all-columns A n (le_refl n)) (λ w r. reached-inverse A w r)
