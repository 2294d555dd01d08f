-- In exact arithmetic Cholesky's factor L is lower, and L × transposed L is the matrix. Assumes nothing.
use mathlib.Core.Path.{◌≡◌, refl, sym, ap, ap₂, ◌∙◌, subst⁻¹}
use mathlib.Core.Bool.{Bool, true, false}
use mathlib.Core.List.{List, [], ◌∷◌, ◌++◌}
use mathlib.Core.Logic.{⊎_elim}
use Prim.Native.Nat.{ℕ, zero, suc, ◌+◌, ◌≤◌, ◌<◌}
use native.Mathlib.Nat.{le_refl, le_of_suc-le-suc, eq-or-lt_of_le}
use native.Mathlib.Numerals.{add-one}
use native.Mathlib.Omega.{arith}
use lib.Dec.{leb}
use borrow.Author.Tests.{leb-true, leb-false}
use lib.ListN.{length, get_or, length-append, get_or-append}
use lib.Seq.{get_or_at}
use Rattle.std.specs.Prelude.{Ok}
use Rattle.answer.specs.declared.Refusal.TheVariants.{NotPositiveDefinite}
use Rattle.answer.proofs.Choice.{never}
use Rattle.answer.specs.Answer.{mapped, refused_if}
use Rattle.answer.specs.Table.{pad_to}
use Rattle.answer.proofs.Tables.{get_or-pad_to}
use Rattle.answer.proofs.Answers.{Told, number, result, result_of, told-then}
use Rattle.textbook.specs.Arithmetic.{Arithmetic, Exact}
use Rattle.textbook.specs.Matrices as M
use Rattle.textbook.specs.Factor as C
use Rattle.textbook.proofs.Field as F
use Rattle.textbook.proofs.Cells as Cells

-- ---- what stands where in a list brought to n places
module _ {A : Type 0} where
  pub get_or-behind : (n : ℕ) (z : A) (l : List A) (i : ℕ) (d : A) → length l ≤ i → i < n → get_or (pad_to n z l) i d ≡ z
  get_or-behind zero z l i d h g = absurd (omega arith)
  get_or-behind (suc n) z [] zero d h g = refl
  get_or-behind (suc n) z [] (suc i) d h g = get_or-behind n z [] i d (omega arith) (le_of_suc-le-suc g)
  get_or-behind (suc n) z (x ∷ l) zero d h g = absurd (omega arith)
  get_or-behind (suc n) z (x ∷ l) (suc i) d h g = get_or-behind n z l i d (le_of_suc-le-suc h) (le_of_suc-le-suc g)

module _ (N : Arithmetic) (X : Exact N) (n : ℕ) where
  -- ---- the cells left of the diagonal
  length-left : (a : M.Vec N) (L : M.Mat N) (j : ℕ) → length (C.left_cells N a L j) ≡ j
  unfolding C.left_cells
  length-left a L zero = refl
  length-left a L (suc j) = length-append (C.left_cells N a L j) _ ∙ (λ i. length-left a L j i + 1) ∙ add-one j

  module _ (a : M.Vec N) (L : M.Mat N) where
    abbrev left : ℕ → ℕ → N.Num
    left i t = M.at N (C.left_cells N a L i) t

    one_more : (i t : ℕ) → t < i → left (suc i) t ≡ left i t
    unfolding C.left_cells
    one_more i t h = get_or-append (C.left_cells N a L i) _ N.none t (omega (arith, length-left a L i))

    last-left : (i : ℕ) → left (suc i) i
        ≡ N.over (N.minus (M.at N a i) (M.sum_of N i (λ t. N.times (left i t) (M.cell N L i t)))) (M.cell N L i i)
    unfolding C.left_cells M.dot
    last-left i = get_or_at (C.left_cells N a L i) _ [] N.none i (length-left a L i)

    -- the sum up to the diagonal of row j is the cell of A
    own-product : (i : ℕ) → (M.cell N L i i ≡ N.nought → ⊥) → M.sum_of N (suc i) (λ t. N.times (left (suc i) t) (M.cell N L i t)) ≡ M.at N a i
    unfolding M.sum_of
    own-product i d =
        let s = M.sum_of N i (λ t. N.times (left i t) (M.cell N L i t)) in
        ap₂ N.plus
        (F.sum_ext N X i (λ t. N.times (left (suc i) t) (M.cell N L i t)) (λ t. N.times (left i t) (M.cell N L i t))
        (λ t q. ap (λ (x : N.Num). N.times x (M.cell N L i t)) (one_more i t q)))
        (ap (λ (x : N.Num). N.times x (M.cell N L i i)) (last-left i) ∙ X.over-times (N.minus (M.at N a i) s) (M.cell N L i i) d)
        ∙ X.plus_comm s (N.minus (M.at N a i) s)
        ∙ X.minus_plus (M.at N a i) s

    left-product : (i j : ℕ) → j < i → (M.cell N L j j ≡ N.nought → ⊥)
        → M.sum_of N (suc j) (λ t. N.times (left i t) (M.cell N L j t)) ≡ M.at N a j
    left-product zero j h d = absurd (omega arith)
    left-product (suc i) j h d =
        ⊎_elim
        (λ e. subst⁻¹ (λ k. M.sum_of N (suc k) (λ t. N.times (left (suc i) t) (M.cell N L k t)) ≡ M.at N a k) e
        (own-product i (λ z. d (ap (λ k. M.cell N L k k) e ∙ z))))
        (λ l. F.sum_ext N X (suc j) (λ t. N.times (left (suc i) t) (M.cell N L j t)) (λ t. N.times (left i t) (M.cell N L j t))
        (λ t q. ap (λ (x : N.Num). N.times x (M.cell N L j t)) (one_more i t (omega arith)))
        ∙ left-product i j l d)
        (eq-or-lt_of_le (le_of_suc-le-suc h))

  -- ---- the first i rows
  pub record Rows (A : M.Mat N) (i : ℕ) (L : M.Mat N) : Type 0 where
    pub count : length L ≡ i
    pub lower : (k j : ℕ) → k < i → k < j → j < n → M.cell N L k j ≡ N.nought
    pub diagonal : (k : ℕ) → k < i → M.cell N L k k ≡ N.nought → ⊥
    pub product : (k j : ℕ) → k < i → j ≤ k → M.sum_of N (suc j) (λ t. N.times (M.cell N L k t) (M.cell N L j t)) ≡ M.cell N A k j

  module _ (A : M.Mat N) (i : ℕ) (hi : i < n) (L : M.Mat N) (r : Rows A i L) where
    abbrev a : M.Vec N
    a = M.row N A i

    abbrev v : M.Vec N
    v = C.left_cells N a L i

    abbrev rest : N.Num
    rest = N.minus (M.at N a i) (M.dot N i v v)

    module _ (passes : N.no_diagonal rest ≡ false) where
      abbrev x : N.Num
      x = N.root rest

      abbrev w : M.Vec N
      w = pad_to n N.nought (v ++ x ∷ [])

      abbrev L' : M.Mat N
      L' = L ++ w ∷ []

      size : length (v ++ x ∷ []) ≡ suc i
      size = length-append v (x ∷ []) ∙ (λ k. length-left a L i k + 1) ∙ add-one i

      w_left : (t : ℕ) → t < i → M.at N w t ≡ M.at N v t
      w_left t h =
          get_or-pad_to n N.nought (v ++ x ∷ []) t N.none (omega (arith, size))
          ∙ get_or-append v (x ∷ []) N.none t (omega (arith, length-left a L i))

      w_here : M.at N w i ≡ x
      w_here =
          get_or-pad_to n N.nought (v ++ x ∷ []) i N.none (omega (arith, size))
          ∙ get_or_at v x [] N.none i (length-left a L i)

      above : (k t : ℕ) → k < i → M.cell N L' k t ≡ M.cell N L k t
      above k t h = ap (λ (u : M.Vec N). M.at N u t) (get_or-append L (w ∷ []) [] k (omega (arith, r.count)))

      here : (t : ℕ) → M.cell N L' i t ≡ M.at N w t
      here t = ap (λ (u : M.Vec N). M.at N u t) (get_or_at L w [] [] i r.count)

      root-nonzero : x ≡ N.nought → ⊥
      root-nonzero e =
          never (sym (X.above rest passes) ∙ ap (λ (y : N.Num). N.at_most y N.nought)
          (sym (X.root-times rest (X.above rest passes)) ∙ ap (N.times x) e ∙ F.times-nought N X x) ∙ X.not_above)

      -- the row's own sums
      before : (j : ℕ) → j < i → M.sum_of N (suc j) (λ t. N.times (M.cell N L' i t) (M.cell N L' j t)) ≡ M.cell N A i j
      before j h =
          F.sum_ext N X (suc j) (λ t. N.times (M.cell N L' i t) (M.cell N L' j t)) (λ t. N.times (M.at N v t) (M.cell N L j t))
          (λ t l. ap₂ N.times (here t ∙ w_left t (omega arith)) (above j t h))
          ∙ left-product a L i j h (r.diagonal j h)

      own : M.sum_of N (suc i) (λ t. N.times (M.cell N L' i t) (M.cell N L' i t)) ≡ M.cell N A i i
      unfolding M.sum_of M.dot
      own =
          let s = M.dot N i v v in
          ap₂ N.plus
          (F.sum_ext N X i (λ t. N.times (M.cell N L' i t) (M.cell N L' i t)) (λ t. N.times (M.at N v t) (M.at N v t))
          (λ t l. ap₂ N.times (here t ∙ w_left t l) (here t ∙ w_left t l)))
          (ap₂ N.times (here i ∙ w_here) (here i ∙ w_here) ∙ X.root-times rest (X.above rest passes))
          ∙ X.plus_comm s (N.minus (M.at N a i) s)
          ∙ X.minus_plus (M.at N a i) s

      pub more : Rows A (suc i) L'
      more = record {
        count = length-append L (w ∷ []) ∙ (λ k. r.count k + 1) ∙ add-one i;
        lower = λ k j h l g. ⊎_elim
            (λ e. ap (λ q. M.cell N L' q j) e ∙ here j ∙ get_or-behind n N.nought (v ++ x ∷ []) j N.none (omega (arith, size)) g)
            (λ q. above k j q ∙ r.lower k j q l g)
            (eq-or-lt_of_le (le_of_suc-le-suc h));
        diagonal = λ k h z. ⊎_elim
            (λ e. root-nonzero (sym (here i ∙ w_here) ∙ ap (λ q. M.cell N L' q q) (sym e) ∙ z))
            (λ q. r.diagonal k q (sym (above k k q) ∙ z))
            (eq-or-lt_of_le (le_of_suc-le-suc h));
        product = λ k j h l. ⊎_elim
            (λ e. subst⁻¹ (λ q. M.sum_of N (suc j) (λ t. N.times (M.cell N L' q t) (M.cell N L' j t)) ≡ M.cell N A q j) e (in_row j (omega arith)))
            (λ q. F.sum_ext N X (suc j) (λ t. N.times (M.cell N L' k t) (M.cell N L' j t)) (λ t. N.times (M.cell N L k t) (M.cell N L j t))
            (λ t s. ap₂ N.times (above k t q) (above j t (omega arith)))
            ∙ r.product k j q l)
            (eq-or-lt_of_le (le_of_suc-le-suc h));
      }
        where
          in_row : (j : ℕ) → j ≤ i → M.sum_of N (suc j) (λ t. N.times (M.cell N L' i t) (M.cell N L' j t)) ≡ M.cell N A i j
          in_row j h = ⊎_elim
              (λ e. subst⁻¹ (λ q. M.sum_of N (suc q) (λ t. N.times (M.cell N L' i t) (M.cell N L' q t)) ≡ M.cell N A i q) e own)
              (λ q. before j q)
              (eq-or-lt_of_le h)

    told-row : Told (λ k. Unit {0}) (Rows A (suc i)) (mapped (λ w. L ++ w ∷ []) (C.factor_row N n a L i))
    unfolding C.factor_row C.diagonal_of
    told-row = by (N.no_diagonal rest) refl
      where
        by : (b : Bool) → N.no_diagonal rest ≡ b
            → Told (λ k. Unit {0}) (Rows A (suc i))
            (mapped (λ w. L ++ w ∷ []) (mapped (λ y. pad_to n N.nought (v ++ y ∷ [])) (refused_if b NotPositiveDefinite (N.root rest))))
        by true e = number tt
        by false e = result (more e)

  all-rows : (A : M.Mat N) (i : ℕ) → i ≤ n → Told (λ k. Unit {0}) (Rows A i) (C.factor_rows N n A i)
  unfolding C.factor_rows
  all-rows A zero h =
      result (record {
        count = refl;
        lower = λ k j q. absurd (omega arith);
        diagonal = λ k q. absurd (omega arith);
        product = λ k j q. absurd (omega arith);
      })
  all-rows A (suc i) h = told-then (all-rows A i (omega arith)) (λ L r. told-row A i h L r)

  module _ (A L : M.Mat N) (e : C.cholesky N n A ≡ Ok L) where
    reached : Rows A n L
    unfolding C.cholesky
    reached = result_of (all-rows A n (le_refl n)) e

    pub factor-lower : M.Lower N n L
    factor-lower i j h g = reached.lower i j (omega arith) h g

    -- on the diagonal and left of it
    pub factor-product : (i j : ℕ) → i < n → j ≤ i → M.gram N n L i j ≡ M.cell N A i j
    factor-product i j hi hj =
        Cells.gram_is N X n L i j hi (omega arith)
        ∙ F.sum-front N X (suc j) n (λ t. N.times (M.cell N L i t) (M.cell N L j t)) (omega arith)
        (λ t l g. ap (N.times (M.cell N L i t)) (factor-lower j t l g) ∙ F.times-nought N X (M.cell N L i t))
        ∙ reached.product i j hi hj

    -- everywhere, for a symmetric matrix
    pub factor-whole : M.Symmetric N n A → (i j : ℕ) → i < n → j < n → M.gram N n L i j ≡ M.cell N A i j
    factor-whole s i j hi hj = by (leb j i) refl
      where
        by : (b : Bool) → leb j i ≡ b → M.gram N n L i j ≡ M.cell N A i j
        by true q = factor-product i j hi (leb-true j i q)
        by false q =
            let l : i < j = leb-false j i q in
            Cells.gram-turned N X n L i j hi hj ∙ factor-product j i hj (omega arith) ∙ s j i hj hi
