-- Exact arithmetic: products of matrices of any sizes associate and distribute, and the identity leaves a matrix as it is. Assumes nothing.
use mathlib.Core.Path.{◌≡◌, refl, sym, ap, ap₂, ◌∙◌}
use mathlib.Core.Bool.{Bool, true, false, cond}
use Prim.Native.Nat.{ℕ, zero, suc, ◌≤◌, ◌<◌}
use native.Mathlib.Omega.{arith}
use lib.Dec.{eqb}
use borrow.Author.Tests.{eq-eqb, ne_eqb, eqb-true, eqb-false}
use Rattle.answer.proofs.Choice.{cond-true, cond-false}
use Rattle.answer.specs.Table.{table}
use Rattle.answer.proofs.Tables.{get_or-table, table_ext}
use Rattle.textbook.specs.Arithmetic.{Arithmetic, Exact}
use Rattle.textbook.specs.Matrices as M
use Rattle.textbook.proofs.Field as F
use Rattle.textbook.proofs.Cells as Cells

module _ (N : Arithmetic) (X : Exact N) where
  -- ---- cells by row and column
  abbrev pub delta : ℕ → ℕ → N.Num
  delta i j = cond (eqb i j) N.unit N.nought

  -- one term of a sum: that at i
  module _ (i : ℕ) (g : ℕ → N.Num) where
    abbrev term : ℕ → N.Num
    term t = N.times (delta i t) (g t)

    other : (t : ℕ) → (i ≡ t → ⊥) → term t ≡ N.nought
    other t h = ap (λ (x : N.Num). N.times x (g t)) (cond-false N.unit N.nought (ne_eqb i t h)) ∙ F.nought-times N X (g t)

    own : term i ≡ g i
    own = ap (λ (x : N.Num). N.times x (g i)) (cond-true N.unit N.nought (eq-eqb i i refl)) ∙ F.unit-times N X (g i)

    pick-none : (m : ℕ) → m ≤ i → M.sum_of N m term ≡ N.nought
    unfolding M.sum_of
    pick-none zero h = refl
    pick-none (suc m) h = ap₂ N.plus (pick-none m (omega arith)) (other m (λ e. omega arith)) ∙ X.plus-nought N.nought

    pub pick : (m : ℕ) → i < m → M.sum_of N m term ≡ g i
    unfolding M.sum_of
    pick zero h = absurd (omega arith)
    pick (suc m) h = by (eqb i m) refl (λ l. pick m l)
      where
        by : (b : Bool) → eqb i m ≡ b → (i < m → M.sum_of N m term ≡ g i) → N.plus (M.sum_of N m term) (term m) ≡ g i
        by true e again =
            let same : i ≡ m = eqb-true i m e in
            ap₂ N.plus (pick-none m (omega arith)) (ap term (sym same) ∙ own) ∙ F.nought-plus N X (g i)
        by false e again =
            let differ : i ≡ m → ⊥ = eqb-false i m e in
            ap₂ N.plus (again (omega (arith, differ))) (other m differ) ∙ X.plus-nought (g i)

  delta-turned : (i j : ℕ) → delta i j ≡ delta j i
  delta-turned i j = by (eqb i j) refl
    where
      by : (b : Bool) → eqb i j ≡ b → delta i j ≡ delta j i
      by true e = cond-true N.unit N.nought e ∙ sym (cond-true N.unit N.nought (eq-eqb j i (sym (eqb-true i j e))))
      by false e = cond-false N.unit N.nought e ∙ sym (cond-false N.unit N.nought (ne_eqb j i (λ q. eqb-false i j e (sym q))))

  -- ---- matrices as lists; A as one of r rows and c columns
  abbrev pub fit : ℕ → ℕ → M.Mat N → M.Mat N
  fit r c A = M.mat N r c (λ i j. M.cell N A i j)

  abbrev pub term_of : M.Mat N → M.Mat N → ℕ → ℕ → ℕ → N.Num
  term_of A B i j t = N.times (M.cell N A i t) (M.cell N B t j)

  pub cell-mul : (r k c : ℕ) (A B : M.Mat N) (i j : ℕ) → i < r → j < c → M.cell N (M.mul N r k c A B) i j ≡ M.sum_of N k (term_of A B i j)
  unfolding M.mul
  cell-mul r k c A B i j hi hj = Cells.cell-mat N r c (λ i j. M.sum_of N k (term_of A B i j)) i j hi hj

  -- two products are alike where their terms are
  pub mul_by : (r k c : ℕ) (A B A' B' : M.Mat N) → ((i j t : ℕ) → i < r → j < c → t < k → term_of A B i j t ≡ term_of A' B' i j t)
      → M.mul N r k c A B ≡ M.mul N r k c A' B'
  unfolding M.mul
  mul_by r k c A B A' B' e =
      Cells.mat_ext N r c (λ i j. M.sum_of N k (term_of A B i j)) (λ i j. M.sum_of N k (term_of A' B' i j))
      (λ i j hi hj. F.sum_ext N X k (term_of A B i j) (term_of A' B' i j) (λ t ht. e i j t hi hj ht))

  pub fit-left : (r k c : ℕ) (A B : M.Mat N) → M.mul N r k c (fit r k A) B ≡ M.mul N r k c A B
  fit-left r k c A B =
      mul_by r k c (fit r k A) B A B
      (λ i j t hi hj ht. ap (λ (x : N.Num). N.times x (M.cell N B t j)) (Cells.cell-mat N r k (M.cell N A) i t hi ht))

  pub fit-right : (r k c : ℕ) (A B : M.Mat N) → M.mul N r k c A (fit k c B) ≡ M.mul N r k c A B
  fit-right r k c A B =
      mul_by r k c A (fit k c B) A B (λ i j t hi hj ht. ap (N.times (M.cell N A i t)) (Cells.cell-mat N k c (M.cell N B) t j ht hj))

  pub identity-left : (n c : ℕ) (A : M.Mat N) → M.mul N n n c (M.identity N n) A ≡ fit n c A
  unfolding M.mul M.identity
  identity-left n c A =
      Cells.mat_ext N n c (λ i j. M.sum_of N n (term_of (M.identity N n) A i j)) (M.cell N A)
      (λ i j hi hj. F.sum_ext N X n (term_of (M.identity N n) A i j) (λ t. N.times (delta i t) (M.cell N A t j))
      (λ t ht. ap (λ (x : N.Num). N.times x (M.cell N A t j)) (Cells.cell-mat N n n delta i t hi ht)) ∙ pick i (λ t. M.cell N A t j) n hi)

  pub identity-right : (r n : ℕ) (A : M.Mat N) → M.mul N r n n A (M.identity N n) ≡ fit r n A
  unfolding M.mul M.identity
  identity-right r n A =
      Cells.mat_ext N r n (λ i j. M.sum_of N n (term_of A (M.identity N n) i j)) (M.cell N A)
      (λ i j hi hj. F.sum_ext N X n (term_of A (M.identity N n) i j) (λ t. N.times (delta j t) (M.cell N A i t))
      (λ t ht. ap (N.times (M.cell N A i t)) (Cells.cell-mat N n n delta t j ht hj ∙ delta-turned t j)
      ∙ X.times-comm (M.cell N A i t) (delta j t))
      ∙ pick j (λ t. M.cell N A i t) n hj)

  -- ---- a sum of sums
  sum_noughts : (n : ℕ) → M.sum_of N n (λ t. N.nought) ≡ N.nought
  unfolding M.sum_of
  sum_noughts zero = refl
  sum_noughts (suc n) = X.plus-nought (M.sum_of N n (λ t. N.nought)) ∙ sum_noughts n

  sum-turned : (k l : ℕ) (f : ℕ → ℕ → N.Num) → M.sum_of N k (λ t. M.sum_of N l (λ s. f t s)) ≡ M.sum_of N l (λ s. M.sum_of N k (λ t. f t s))
  unfolding M.sum_of
  sum-turned zero l f = sym (sum_noughts l)
  sum-turned (suc k) l f =
      ap (λ (x : N.Num). N.plus x (M.sum_of N l (λ s. f k s))) (sum-turned k l f) ∙ F.sum-plus N X l (λ s. M.sum_of N k (λ t. f t s)) (λ s. f k s)

  pub mul_assoc : (r k l c : ℕ) (A B C : M.Mat N) → M.mul N r l c (M.mul N r k l A B) C ≡ M.mul N r k c A (M.mul N k l c B C)
  unfolding M.mul
  mul_assoc r k l c A B C =
      Cells.mat_ext N r c (λ i j. M.sum_of N l (term_of (M.mul N r k l A B) C i j)) (λ i j. M.sum_of N k (term_of A (M.mul N k l c B C) i j))
      (λ i j hi hj.
      F.sum_ext N X l (term_of (M.mul N r k l A B) C i j) (λ s. M.sum_of N k (λ t. three i j t s)) (λ s hs. inner i j s hi hs)
      ∙ sym (sum-turned k l (three i j))
      ∙ sym (F.sum_ext N X k (term_of A (M.mul N k l c B C) i j) (λ t. M.sum_of N l (λ s. three i j t s)) (λ t ht. outer i j t ht hj)))
    where
      three : ℕ → ℕ → ℕ → ℕ → N.Num
      three i j t s = N.times (M.cell N A i t) (term_of B C t j s)

      inner : (i j s : ℕ) → i < r → s < l → term_of (M.mul N r k l A B) C i j s ≡ M.sum_of N k (λ t. three i j t s)
      inner i j s hi hs =
          ap (λ (x : N.Num). N.times x (M.cell N C s j)) (cell-mul r k l A B i s hi hs)
          ∙ F.sum-times N X k (term_of A B i s) (M.cell N C s j)
          ∙ F.sum_ext N X k (λ t. N.times (term_of A B i s t) (M.cell N C s j)) (λ t. three i j t s)
          (λ t ht. X.times-assoc (M.cell N A i t) (M.cell N B t s) (M.cell N C s j))

      outer : (i j t : ℕ) → t < k → j < c → term_of A (M.mul N k l c B C) i j t ≡ M.sum_of N l (λ s. three i j t s)
      outer i j t ht hj = ap (N.times (M.cell N A i t)) (cell-mul k l c B C t j ht hj) ∙ F.times-sum N X l (term_of B C t j) (M.cell N A i t)

  -- ---- sums and differences
  module _ (op : N.Num → N.Num → N.Num) (r k c : ℕ) (A B C : M.Mat N)
      (sums : (f g : ℕ → N.Num) → M.sum_of N k (λ t. op (f t) (g t)) ≡ op (M.sum_of N k f) (M.sum_of N k g)) where
    abbrev both : ℕ → ℕ → M.Mat N → M.Mat N → M.Mat N
    both r c A B = M.mat N r c (λ i j. op (M.cell N A i j) (M.cell N B i j))

    both-mul : ((x y z : N.Num) → N.times (op x y) z ≡ op (N.times x z) (N.times y z))
        → M.mul N r k c (both r k A B) C ≡ both r c (M.mul N r k c A C) (M.mul N r k c B C)
    unfolding M.mul
    both-mul law =
        Cells.mat_ext N r c (λ i j. M.sum_of N k (term_of (both r k A B) C i j))
        (λ i j. op (M.cell N (M.mul N r k c A C) i j) (M.cell N (M.mul N r k c B C) i j))
        (λ i j hi hj.
        F.sum_ext N X k (term_of (both r k A B) C i j) (λ t. op (term_of A C i j t) (term_of B C i j t))
        (λ t ht. ap (λ (x : N.Num). N.times x (M.cell N C t j)) (Cells.cell-mat N r k (λ i j. op (M.cell N A i j) (M.cell N B i j)) i t hi ht)
        ∙ law (M.cell N A i t) (M.cell N B i t) (M.cell N C t j))
        ∙ sums (term_of A C i j) (term_of B C i j)
        ∙ sym (ap₂ op (cell-mul r k c A C i j hi hj) (cell-mul r k c B C i j hi hj)))

    mul-both : ((x y z : N.Num) → N.times x (op y z) ≡ op (N.times x y) (N.times x z))
        → M.mul N r k c A (both k c B C) ≡ both r c (M.mul N r k c A B) (M.mul N r k c A C)
    unfolding M.mul
    mul-both law =
        Cells.mat_ext N r c (λ i j. M.sum_of N k (term_of A (both k c B C) i j))
        (λ i j. op (M.cell N (M.mul N r k c A B) i j) (M.cell N (M.mul N r k c A C) i j))
        (λ i j hi hj.
        F.sum_ext N X k (term_of A (both k c B C) i j) (λ t. op (term_of A B i j t) (term_of A C i j t))
        (λ t ht. ap (N.times (M.cell N A i t)) (Cells.cell-mat N k c (λ i j. op (M.cell N B i j) (M.cell N C i j)) t j ht hj)
        ∙ law (M.cell N A i t) (M.cell N B t j) (M.cell N C t j))
        ∙ sums (term_of A B i j) (term_of A C i j)
        ∙ sym (ap₂ op (cell-mul r k c A B i j hi hj) (cell-mul r k c A C i j hi hj)))

  module _ (r k c : ℕ) (A B C : M.Mat N) where
    pub add-mul : M.mul N r k c (M.add N r k A B) C ≡ M.add N r c (M.mul N r k c A C) (M.mul N r k c B C)
    unfolding M.add
    add-mul = both-mul N.plus r k c A B C (λ f g. sym (F.sum-plus N X k f g)) (F.plus_times N X)

    pub mul-add : M.mul N r k c A (M.add N k c B C) ≡ M.add N r c (M.mul N r k c A B) (M.mul N r k c A C)
    unfolding M.add
    mul-add = mul-both N.plus r k c A B C (λ f g. sym (F.sum-plus N X k f g)) X.times-plus

    pub sub-mul : M.mul N r k c (M.sub N r k A B) C ≡ M.sub N r c (M.mul N r k c A C) (M.mul N r k c B C)
    unfolding M.sub
    sub-mul = both-mul N.minus r k c A B C (F.sum-minus N X k) (F.minus-times N X)

    pub mul-sub : M.mul N r k c A (M.sub N k c B C) ≡ M.sub N r c (M.mul N r k c A B) (M.mul N r k c A C)
    unfolding M.sub
    mul-sub = mul-both N.minus r k c A B C (F.sum-minus N X k) (F.times-minus N X)

  -- A = D - B where A + B = D
  pub sub-only : (r c : ℕ) (A B D : M.Mat N) → M.add N r c A B ≡ D → fit r c A ≡ M.sub N r c D B
  unfolding M.add M.sub
  sub-only r c A B D e =
      Cells.mat_ext N r c (M.cell N A) (λ i j. N.minus (M.cell N D i j) (M.cell N B i j))
      (λ i j hi hj. F.minus-only N X (M.cell N A i j) (M.cell N D i j) (M.cell N B i j)
      (sym (Cells.cell-mat N r c (λ i j. N.plus (M.cell N A i j) (M.cell N B i j)) i j hi hj) ∙ ap (λ (Z : M.Mat N). M.cell N Z i j) e))

  -- (D - G) + (E - (E - G)) = D
  pub back_to : (r c : ℕ) (D G E : M.Mat N) → M.add N r c (M.sub N r c D G) (M.sub N r c E (M.sub N r c E G)) ≡ fit r c D
  unfolding M.add M.sub
  back_to r c D G E =
      Cells.mat_ext N r c (λ i j. N.plus (M.cell N (M.sub N r c D G) i j) (M.cell N (M.sub N r c E (M.sub N r c E G)) i j)) (M.cell N D)
      (λ i j hi hj.
      ap₂ N.plus (less D G i j hi hj)
      (less E (M.sub N r c E G) i j hi hj ∙ ap (N.minus (M.cell N E i j)) (less E G i j hi hj) ∙ twice (M.cell N E i j) (M.cell N G i j))
      ∙ X.minus_plus (M.cell N D i j) (M.cell N G i j))
    where
      less : (A B : M.Mat N) (i j : ℕ) → i < r → j < c → M.cell N (M.sub N r c A B) i j ≡ N.minus (M.cell N A i j) (M.cell N B i j)
      less A B i j hi hj = Cells.cell-mat N r c (λ i j. N.minus (M.cell N A i j) (M.cell N B i j)) i j hi hj

      twice : (x y : N.Num) → N.minus x (N.minus x y) ≡ y
      twice x y = sym (F.minus-only N X y x (N.minus x y) (X.plus_comm y (N.minus x y) ∙ X.minus_plus x y))

  pub fit-mul : (r k c : ℕ) (A B : M.Mat N) → fit r c (M.mul N r k c A B) ≡ M.mul N r k c A B
  unfolding M.mul
  fit-mul r k c A B =
      Cells.mat_ext N r c (M.cell N (M.mul N r k c A B)) (λ i j. M.sum_of N k (term_of A B i j)) (λ i j hi hj. cell-mul r k c A B i j hi hj)

  pub fit-identity : (n : ℕ) → fit n n (M.identity N n) ≡ M.identity N n
  unfolding M.identity
  fit-identity n = Cells.mat_ext N n n (M.cell N (M.identity N n)) delta (λ i j hi hj. Cells.cell-mat N n n delta i j hi hj)

  -- (A + B) + (E - B) = A + E
  pub through : (r c : ℕ) (A B E : M.Mat N) → M.add N r c (M.add N r c A B) (M.sub N r c E B) ≡ M.add N r c A E
  unfolding M.add M.sub
  through r c A B E =
      Cells.mat_ext N r c (λ i j. N.plus (M.cell N (M.add N r c A B) i j) (M.cell N (M.sub N r c E B) i j))
      (λ i j. N.plus (M.cell N A i j) (M.cell N E i j))
      (λ i j hi hj.
      let a = M.cell N A i j in
      let b = M.cell N B i j in
      let e = M.cell N E i j in
      ap₂ N.plus (Cells.cell-mat N r c (λ i j. N.plus (M.cell N A i j) (M.cell N B i j)) i j hi hj)
      (Cells.cell-mat N r c (λ i j. N.minus (M.cell N E i j) (M.cell N B i j)) i j hi hj)
      ∙ X.plus_assoc a b (N.minus e b)
      ∙ ap (N.plus a) (X.plus_comm b (N.minus e b) ∙ X.minus_plus e b))

  -- B + (E - B) = E
  pub whole : (r c : ℕ) (B E : M.Mat N) → M.add N r c B (M.sub N r c E B) ≡ fit r c E
  unfolding M.add M.sub
  whole r c B E =
      Cells.mat_ext N r c (λ i j. N.plus (M.cell N B i j) (M.cell N (M.sub N r c E B) i j)) (M.cell N E)
      (λ i j hi hj.
      ap (N.plus (M.cell N B i j)) (Cells.cell-mat N r c (λ i j. N.minus (M.cell N E i j) (M.cell N B i j)) i j hi hj)
      ∙ X.plus_comm (M.cell N B i j) (N.minus (M.cell N E i j) (M.cell N B i j))
      ∙ X.minus_plus (M.cell N E i j) (M.cell N B i j))

  -- ---- vectors are matrices of one column
  abbrev pub upright : ℕ → M.Vec N → M.Mat N
  upright r v = M.mat N r 1 (λ i j. M.at N v i)

  pub at_upright : (r : ℕ) (v : M.Vec N) (i j : ℕ) → i < r → j < 1 → M.cell N (upright r v) i j ≡ M.at N v i
  at_upright r v i j hi hj = Cells.cell-mat N r 1 (λ i j. M.at N v i) i j hi hj

  pub upright-matvec : (r c : ℕ) (A : M.Mat N) (v : M.Vec N) → upright r (M.matvec N r c A v) ≡ M.mul N r c 1 A (upright c v)
  unfolding M.matvec M.mul
  upright-matvec r c A v =
      Cells.mat_ext N r 1 (λ i j. M.at N (M.matvec N r c A v) i) (λ i j. M.sum_of N c (term_of A (upright c v) i j))
      (λ i j hi hj.
      get_or-table r (λ i. M.sum_of N c (λ j. N.times (M.cell N A i j) (M.at N v j))) i N.none hi
      ∙ F.sum_ext N X c (λ t. N.times (M.cell N A i t) (M.at N v t)) (term_of A (upright c v) i j)
      (λ t ht. ap (N.times (M.cell N A i t)) (sym (at_upright c v t j ht hj))))

  pub upright-add : (r : ℕ) (v w : M.Vec N) → upright r (M.vec_add N r v w) ≡ M.add N r 1 (upright r v) (upright r w)
  unfolding M.vec_add M.add
  upright-add r v w =
      Cells.mat_ext N r 1 (λ i j. M.at N (M.vec_add N r v w) i) (λ i j. N.plus (M.cell N (upright r v) i j) (M.cell N (upright r w) i j))
      (λ i j hi hj. get_or-table r (λ i. N.plus (M.at N v i) (M.at N w i)) i N.none hi
      ∙ sym (ap₂ N.plus (at_upright r v i j hi hj) (at_upright r w i j hi hj)))

  pub upright-sub : (r : ℕ) (v w : M.Vec N) → upright r (M.vec_sub N r v w) ≡ M.sub N r 1 (upright r v) (upright r w)
  unfolding M.vec_sub M.sub
  upright-sub r v w =
      Cells.mat_ext N r 1 (λ i j. M.at N (M.vec_sub N r v w) i) (λ i j. N.minus (M.cell N (upright r v) i j) (M.cell N (upright r w) i j))
      (λ i j hi hj. get_or-table r (λ i. N.minus (M.at N v i) (M.at N w i)) i N.none hi
      ∙ sym (ap₂ N.minus (at_upright r v i j hi hj) (at_upright r w i j hi hj)))

  -- vectors of r components are equal where they are so upright
  pub lying : (r : ℕ) (f g : ℕ → N.Num) → upright r (table r f) ≡ upright r (table r g) → table r f ≡ table r g
  lying r f g e =
      table_ext r f g
      (λ i hi. sym (get_or-table r f i N.none hi) ∙ sym (at_upright r (table r f) i 0 hi (omega arith)) ∙ ap (λ (Z : M.Mat N). M.cell N Z i 0) e
      ∙ at_upright r (table r g) i 0 hi (omega arith) ∙ get_or-table r g i N.none hi)
