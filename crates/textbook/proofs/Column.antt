-- In exact arithmetic a column that the textbook's form of the downdate turns keeps L × transposed L plus what is taken from it. Assumes nothing.
use mathlib.Core.Path.{◌≡◌, refl, sym, ap, ap₂, ◌∙◌, subst}
use mathlib.Core.Bool.{Bool, true, false, cond}
use Prim.Native.Nat.{ℕ, suc, ◌≤◌, ◌<◌}
use native.Mathlib.Nat.{le_refl}
use native.Mathlib.Omega.{arith}
use lib.Dec.{eqb, ltb}
use borrow.Author.Tests.{eq-eqb, ne_eqb, eqb-true, ltb-true, ltb-false, lt-ltb, le-ltb}
use Rattle.answer.proofs.Choice.{cond-true, cond-false, never}
use Rattle.answer.specs.Table.{table}
use Rattle.answer.proofs.Tables.{get_or-table}
use Rattle.textbook.specs.Arithmetic.{Arithmetic, Exact}
use Rattle.textbook.specs.Matrices as M
use Rattle.textbook.specs.Downdate as D
use Rattle.textbook.proofs.Field as F
use Rattle.textbook.proofs.Cells as Cells
use Rattle.textbook.proofs.Rotation as R

module _ (N : Arithmetic) (X : Exact N) (n : ℕ) where
  abbrev plus : N.Num → N.Num → N.Num
  plus = N.plus

  abbrev times : N.Num → N.Num → N.Num
  times = N.times

  abbrev pub G : M.Mat N → ℕ → ℕ → N.Num
  G L i j = M.sum_of N n (λ t. times (M.cell N L i t) (M.cell N L j t))

  -- the vector, from row k on
  abbrev pub from : ℕ → M.Vec N → ℕ → N.Num
  from k v i = cond (ltb i k) N.nought (M.at N v i)

  -- a column's cell a and the vector's b become a' and b'
  pub record Rotated (c s a b a' b' : N.Num) : Type 0 where
    pub column : plus (times c a') (times s b) ≡ a
    pub vector : plus b' (times s a') ≡ times c b

  module _ (L₀ : M.Mat N) (v₀ : M.Vec N) where
    -- what is reached after k columns
    pub record Turned (k : ℕ) (L : M.Mat N) (v : M.Vec N) : Type 0 where
      pub lower : M.Lower N n L
      pub diagonal : (t : ℕ) → k ≤ t → t < n → M.cell N L t t ≡ N.nought → ⊥
      pub kept : (i j : ℕ) → i < n → j < n
          → plus (G L i j) (times (M.at N v₀ i) (M.at N v₀ j)) ≡ plus (G L₀ i j) (times (from k v i) (from k v j))

    module _ (k : ℕ) (hk : k < n) (L : M.Mat N) (v : M.Vec N) (u : Turned k L v)
        (passes : N.at_most (D.square N k L v) N.nought ≡ false) where
      abbrev l : N.Num
      l = M.cell N L k k

      abbrev y : N.Num
      y = M.at N v k

      abbrev r : N.Num
      r = N.root (D.square N k L v)

      abbrev c : N.Num
      c = N.over r l

      abbrev s : N.Num
      s = N.over y l

      abbrev new : ℕ → N.Num
      new i = N.over (N.minus (M.cell N L i k) (times s (M.at N v i))) c

      abbrev L' : M.Mat N
      L' = D.turned_factor N n k r L v

      abbrev v' : M.Vec N
      v' = D.turned_vector N (D.textbook N) n k r L v

      abbrev column' : ℕ → N.Num
      column' i = cond (ltb k i) (new i) (cond (eqb i k) r (M.cell N L i k))

      abbrev vector' : ℕ → N.Num
      vector' i = cond (ltb k i) (N.minus (times c (M.at N v i)) (times s (new i))) (M.at N v i)

      cell' : (i j : ℕ) → i < n → j < n → M.cell N L' i j ≡ cond (eqb j k) (column' i) (M.cell N L i j)
      unfolding D.turned_factor D.turned_cell
      cell' i j hi hj =
          Cells.cell-mat N n n (λ i j. cond (eqb j k) (M.at N (table n column') i) (M.cell N L i j)) i j hi hj
          ∙ ap (λ (x : N.Num). cond (eqb j k) x (M.cell N L i j)) (get_or-table n column' i N.none hi)

      -- in column k
      column_k : (i : ℕ) → i < n → M.cell N L' i k ≡ column' i
      column_k i hi = cell' i k hi hk ∙ cond-true (column' i) (M.cell N L i k) (eq-eqb k k refl)

      at' : (i : ℕ) → i < n → M.at N v' i ≡ vector' i
      unfolding D.turned_vector D.turned_cell
      at' i hi = get_or-table n vector' i N.none hi

      -- ---- the numbers of the rotation
      r_square : times r r ≡ N.minus (times l l) (times y y)
      unfolding D.square
      r_square = X.root-times (D.square N k L v) passes

      squares : plus (times r r) (times y y) ≡ times l l
      squares = ap (λ (x : N.Num). plus x (times y y)) r_square ∙ X.minus_plus (times l l) (times y y)

      l_nonzero : l ≡ N.nought → ⊥
      l_nonzero = u.diagonal k (le_refl k) hk

      r_nonzero : r ≡ N.nought → ⊥
      r_nonzero e =
          never (sym passes ∙ ap (λ (x : N.Num). N.at_most x N.nought)
          (sym (X.root-times (D.square N k L v) passes) ∙ ap (times r) e ∙ F.times-nought N X r) ∙ X.not_above)

      c_l : times c l ≡ r
      c_l = X.over-times r l l_nonzero

      s_l : times s l ≡ y
      s_l = X.over-times y l l_nonzero

      c_nonzero : c ≡ N.nought → ⊥
      c_nonzero e = r_nonzero (sym c_l ∙ ap (λ (x : N.Num). times x l) e ∙ F.nought-times N X l)

      one : plus (times c c) (times s s) ≡ N.unit
      one =
          R.times_cancel N X (plus (times c c) (times s s)) N.unit l l_nonzero
          (R.times_cancel N X (times (plus (times c c) (times s s)) l) (times N.unit l) l l_nonzero
          (R.squared (R.ring N X) c s l
          ∙ ap₂ (λ (a b : N.Num). plus (times a a) (times b b)) c_l s_l
          ∙ squares
          ∙ ap (λ (x : N.Num). times x l) (sym (F.unit-times N X l))))

      -- ---- every row is rotated
      abbrev Row : ℕ → Type 0
      Row i = Rotated c s (M.cell N L i k) (from k v i) (M.cell N L' i k) (from (suc k) v' i)

      row_by : {a b a' b' : N.Num} (i : ℕ) → M.cell N L i k ≡ a → from k v i ≡ b → M.cell N L' i k ≡ a' → from (suc k) v' i ≡ b'
          → plus (times c a') (times s b) ≡ a → plus b' (times s a') ≡ times c b → Row i
      row_by i p q p' q' e f = record {
        column = (λ t. plus (times c (p' t)) (times s (q t))) ∙ e ∙ sym p;
        vector = (λ t. plus (q' t) (times s (p' t))) ∙ f ∙ ap (times c) (sym q);
      }

      own : Row k
      own = row_by k refl (cond-false N.nought y (le-ltb k k (le_refl k)))
          (column_k k hk ∙ cond-false (new k) _ (le-ltb k k (le_refl k)) ∙ cond-true r (M.cell N L k k) (eq-eqb k k refl))
          (cond-true N.nought _ (lt-ltb k (suc k) (le_refl (suc k))))
          (R.times_cancel N X (plus (times c r) (times s y)) l l l_nonzero
          (R.crossed (R.ring N X) c s r y l
          ∙ ap₂ (λ (a b : N.Num). plus (times a r) (times b y)) c_l s_l
          ∙ squares))
          (F.nought-plus N X (times s r)
          ∙ R.times_cancel N X (times s r) (times c y) l l_nonzero
          (swap s r ∙ ap (λ (x : N.Num). times x r) s_l ∙ X.times-comm y r ∙ ap (λ (x : N.Num). times x y) (sym c_l) ∙ sym (swap c y)))
        where
          swap : (a b : N.Num) → times (times a b) l ≡ times (times a l) b
          swap a b = X.times-assoc a b l ∙ ap (times a) (X.times-comm b l) ∙ sym (X.times-assoc a l b)

      below : (i : ℕ) → i < n → k < i → Row i
      below i hi h = row_by i refl (cond-false N.nought (M.at N v i) (le-ltb i k (omega arith)))
          (column_k i hi ∙ cond-true (new i) _ (lt-ltb k i h))
          (cond-false N.nought _ (le-ltb i (suc k) h) ∙ at' i hi ∙ cond-true _ (M.at N v i) (lt-ltb k i h))
          (ap (λ (x : N.Num). plus x (times s (M.at N v i)))
          (X.times-comm c (new i) ∙ X.over-times (N.minus (M.cell N L i k) (times s (M.at N v i))) c c_nonzero)
          ∙ X.minus_plus (M.cell N L i k) (times s (M.at N v i)))
          (X.minus_plus (times c (M.at N v i)) (times s (new i)))

      above : (i : ℕ) → i < k → Row i
      above i h = row_by i nothing (cond-true N.nought _ (lt-ltb i k h))
          (column_k i (omega arith) ∙ cond-false (new i) _ (le-ltb k i (omega arith)) ∙ cond-false r _ (ne_eqb i k (λ e. omega arith)) ∙ nothing)
          (cond-true N.nought _ (lt-ltb i (suc k) (omega arith)))
          (ap₂ plus (F.times-nought N X c) (F.times-nought N X s) ∙ X.plus-nought N.nought)
          (F.nought-plus N X (times s N.nought) ∙ F.times-nought N X s ∙ sym (F.times-nought N X c))
        where
          nothing : M.cell N L i k ≡ N.nought
          nothing = u.lower i k h hk

      row : (i : ℕ) → i < n → Row i
      row i hi = by (ltb i k) (ltb k i) refl refl
        where
          by : (b d : Bool) → ltb i k ≡ b → ltb k i ≡ d → Row i
          by true d e q = above i (ltb-true i k e)
          by false true e q = below i hi (ltb-true k i q)
          by false false e q =
              let low : k ≤ i = ltb-false i k e in
              let high : i ≤ k = ltb-false k i q in
              let same : k ≡ i = omega arith in
              subst Row same own

      -- ---- the column, and no other, changes
      other : (i j : ℕ) → i < n → j < n → (j ≡ k → ⊥) → M.cell N L' i j ≡ M.cell N L i j
      other i j hi hj h = cell' i j hi hj ∙ cond-false _ (M.cell N L i j) (ne_eqb j k h)

      kept' : (i j : ℕ) → i < n → j < n
          → plus (G L' i j) (times (M.at N v₀ i) (M.at N v₀ j)) ≡ plus (G L₀ i j) (times (from (suc k) v' i) (from (suc k) v' j))
      kept' i j hi hj =
          R.plus_cancel N X (plus g' vv) (plus g₀ bb') (plus aa bb)
          (R.regrouped (R.ring N X) g' vv aa bb
          ∙ ap (λ (x : N.Num). plus x (plus vv bb)) (sym change)
          ∙ sym (R.regrouped (R.ring N X) g vv aa' bb)
          ∙ ap₂ plus (u.kept i j hi hj) (sym turn)
          ∙ R.exchanged (R.ring N X) g₀ bb aa bb')
        where
          g : N.Num
          g = G L i j

          g' : N.Num
          g' = G L' i j

          g₀ : N.Num
          g₀ = G L₀ i j

          vv : N.Num
          vv = times (M.at N v₀ i) (M.at N v₀ j)

          aa : N.Num
          aa = times (M.cell N L i k) (M.cell N L j k)

          aa' : N.Num
          aa' = times (M.cell N L' i k) (M.cell N L' j k)

          bb : N.Num
          bb = times (from k v i) (from k v j)

          bb' : N.Num
          bb' = times (from (suc k) v' i) (from (suc k) v' j)

          change : plus g aa' ≡ plus g' aa
          change = R.sum-change N X n k (λ t. times (M.cell N L i t) (M.cell N L j t)) (λ t. times (M.cell N L' i t) (M.cell N L' j t)) hk
              (λ t ht q. sym (ap₂ times (other i t hi ht q) (other j t hj ht q)))

          turn : plus aa bb' ≡ plus aa' bb
          turn =
              ap (λ (x : N.Num). plus x bb') (ap₂ times (sym (row i hi).column) (sym (row j hj).column))
              ∙ R.rotation N X c s one (M.cell N L' i k) (from k v i) (from (suc k) v' i) (M.cell N L' j k) (from k v j) (from (suc k) v' j)
              (row i hi).vector (row j hj).vector

      lower' : M.Lower N n L'
      lower' i j h g = cell' i j (omega arith) g ∙ by (eqb j k) refl
        where
          by : (b : Bool) → eqb j k ≡ b → cond (eqb j k) (column' i) (M.cell N L i j) ≡ N.nought
          by true e =
              let same : j ≡ k = eqb-true j k e in
              cond-true (column' i) (M.cell N L i j) e
              ∙ cond-false (new i) _ (le-ltb k i (omega arith))
              ∙ cond-false r (M.cell N L i k) (ne_eqb i k (λ q. omega arith))
              ∙ u.lower i k (omega arith) hk
          by false e = cond-false (column' i) (M.cell N L i j) e ∙ u.lower i j h g

      pub more : Turned (suc k) L' v'
      more = record {
        lower = lower';
        diagonal = λ t h g z. u.diagonal t (omega arith) g (sym (other t t g g (λ e. omega arith)) ∙ z);
        kept = kept';
      }
