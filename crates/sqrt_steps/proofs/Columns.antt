-- A column of the downdate: four cells are made, and those of the used part are the definition's. Assumes nothing.
use mathlib.Core.Path.{◌≡◌, refl, sym, ap, ◌∙◌}
use mathlib.Core.Bool.{Bool, cond}
use mathlib.Core.List.{List}
use Prim.Native.Nat.{ℕ, zero, suc, ◌<◌, ◌≤◌}
use native.Mathlib.Nat.{le_trans}
use lib.Dec.{eqb, ltb, eqb-zero-suc, eqb-suc-zero, eqb-suc-suc}
use lib.Ieee.{Float, nan}
use Rattle.scalar.specs.Number.{◌⊖◌, ◌⊗◌, ◌⊘◌}
use Rattle.std.specs.Prelude.{Ok, Err}
use Rattle.answer.specs.declared.Refusal.{Refusal}
use Rattle.answer.specs.Answer.{Answer}
use Rattle.answer.specs.Outcome.{Outcome, unchanged, done, ◌else_leave◌then◌}
use Rattle.answer.specs.Table.{table}
use Rattle.answer.proofs.Tables.{get_or-table, table_ext}
use Rattle.algebra.specs.Matrix.{Vector, Matrix, at, cell, mat}
use Rattle.algebra.specs.Array.{pad_row, pad}
use Rattle.algebra.proofs.Matrices.{mat_ext}
use Rattle.algebra.proofs.Arrays.{at_cut, cell-used, used-mat}
use Rattle.sizes.specs.declared.Size.{Size}
use Rattle.sizes.specs.Size.{count, front, part}
use Rattle.sizes.proofs.Sizes.{bounds}
use Rattle.rows.proofs.Kernels.{leading_row}
use Rattle.filtering.specs.SquareRoot.{turned_diagonal, rotate}
use Rattle.steps.specs.Step.{Rows}
use Rattle.sqrt_steps.specs.Step.{turned_column, turned_vector, with_column, rotated_rows}

pub at_most_four : (n : Size) → count n ≤ 4
at_most_four n = (bounds n).most

eqb_sym : (i j : ℕ) → eqb i j ≡ eqb j i
eqb_sym zero zero = refl
eqb_sym zero (suc j) = eqb-zero-suc j ∙ sym (eqb-suc-zero j)
eqb_sym (suc i) zero = eqb-suc-zero i ∙ sym (eqb-zero-suc i)
eqb_sym (suc i) (suc j) = eqb-suc-suc i j ∙ eqb_sym i j ∙ sym (eqb-suc-suc j i)

-- ---- column k as it turns: a cell of the column (a, beside b of v) and of v, the factor, and the outcome, by what the test of the diagonal answers
abbrev column_cell : ℕ → Float → Float → Float → ℕ → Bool → Float → Float → Float
column_cell k d c s i e a b = cond (ltb k i) ((a ⊖ s ⊗ b) ⊘ c) (cond e d a)

abbrev vector_cell : ℕ → Float → Float → ℕ → Float → Float → Float
vector_cell k c s i a b = cond (ltb k i) (c ⊗ b ⊖ s ⊗ a) b

abbrev column_of : ℕ → ℕ → Matrix → Vector → Float → Float → Float → Vector
column_of n k L v d c s = table n (λ i. column_cell k d c s i (eqb i k) (cell L i k) (at v i))

abbrev factor_of : ℕ → ℕ → Matrix → Vector → Float → Float → Float → Matrix
factor_of n k L v d c s = mat n n (λ i j. cond (eqb j k) (at (column_of n k L v d c s) i) (cell L i j))

abbrev vector_of : ℕ → ℕ → Matrix → Vector → Float → Float → Vector
vector_of n k L v c s = table n (λ i. vector_cell k c s i (cell L i k) (at v i))

abbrev pub turned : ℕ → ℕ → Matrix → Vector → Float → Float → Answer Float → Outcome Matrix Vector
turned n k L v x y a = a else_leave unchanged then λ d. done (vector_of n k L v (d ⊘ x) (y ⊘ x)) (factor_of n k L v d (d ⊘ x) (y ⊘ x))

module _ (n : Size) (k : ℕ) (l : Rows) (v : List Float) (h : k < count n) where
  abbrev N : ℕ
  N = count n

  abbrev L : Matrix
  L = part n n l

  abbrev W : Vector
  W = front n v

  -- the square of the turned diagonal, as the code has it
  abbrev pub square : Float
  square = cell l k k ⊗ cell l k k ⊖ at v k ⊗ at v k

  by_diagonal : {a : Answer Float} → turned_diagonal square ≡ a → rotate N k L W ≡ turned N k L W (cell l k k) (at v k) a
  unfolding rotate
  by_diagonal q =
      let x = cell-used N N l k k h h in
      let y = at_cut N v k h in
      (λ i. turned N k L W (x i) (y i) (turned_diagonal (x i ⊗ x i ⊖ y i ⊗ y i))) ∙ ap (turned N k L W (cell l k k) (at v k)) q

  pub when_refused : {j : Refusal} → turned_diagonal square ≡ Err j → (Err j, (l, v)) ≡ rotated_rows l v (rotate N k L W)
  when_refused q = sym (ap (rotated_rows l v) (by_diagonal q))

  module _ {d : Float} {column : List Float} (q : turned_diagonal square ≡ Ok d) (is : column ≡ table 4 (λ i. cell l i k)) where
    abbrev c : Float
    c = d ⊘ cell l k k

    abbrev s : Float
    s = at v k ⊘ cell l k k

    four : (i : ℕ) → i < N → i < 4
    four i g = le_trans g (bounds n).most

    in_column : (i : ℕ) → i < N → at column i ≡ cell L i k
    in_column i g = ap (λ (u : List Float). at u i) is ∙ get_or-table 4 (λ i. cell l i k) i nan (four i g) ∙ sym (cell-used N N l i k g h)

    in_vector : (i : ℕ) → i < N → at v i ≡ at W i
    in_vector i g = sym (at_cut N v i g)

    in_turned : (i : ℕ) → i < N → at (turned_column k d c s column v) i ≡ at (column_of N k L W d c s) i
    unfolding turned_column
    in_turned i g =
        get_or-table 4 (λ i. column_cell k d c s i (eqb k i) (at column i) (at v i)) i nan (four i g)
        ∙ (λ t. column_cell k d c s i (eqb_sym k i t) (in_column i g t) (in_vector i g t))
        ∙ sym (get_or-table N (λ i. column_cell k d c s i (eqb i k) (cell L i k) (at W i)) i nan g)

    factor_is : part n n (with_column k (turned_column k d c s column v) l) ≡ factor_of N k L W d c s
    unfolding with_column
    factor_is =
        used-mat N N _ (bounds n).most (bounds n).most
        ∙ mat_ext N N (λ i j. cond (eqb k j) (at (turned_column k d c s column v) i) (cell l i j)) _
        (λ i j f g t. cond (eqb_sym k j t) (in_turned i f t) (sym (cell-used N N l i j f g) t))

    vector_is : pad_row (front n (turned_vector k c s column v)) ≡ pad_row (vector_of N k L W c s)
    unfolding turned_vector
    vector_is =
        leading_row N (λ i. vector_cell k c s i (at column i) (at v i)) _ (bounds n).most refl
        ∙ ap pad_row (table_ext N _ _ (λ i g t. vector_cell k c s i (in_column i g t) (in_vector i g t)))

    pub when_turned : {l' t : Rows} {v' w col : List Float} → col ≡ turned_column k d c s column v → t ≡ with_column k col l → l' ≡ pad (part n n t)
        → w ≡ turned_vector k c s column v → v' ≡ pad_row (front n w) → (Ok tt, (l', v')) ≡ rotated_rows l v (rotate N k L W)
    when_turned ec et el ew ev =
        let isL = el ∙ ap (λ (a : Rows). pad (part n n a)) (et ∙ ap (λ (u : List Float). with_column k u l) ec) ∙ ap pad factor_is in
        let isV = ev ∙ ap (λ (u : List Float). pad_row (front n u)) ew ∙ vector_is in
        (λ i. (Ok tt, (isL i, isV i))) ∙ sym (ap (rotated_rows l v) (by_diagonal q))
