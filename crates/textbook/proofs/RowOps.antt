-- Exact arithmetic: operations on rows that can be undone and that a product on the right does not see. Assumes nothing.
use mathlib.Core.Path.{◌≡◌, refl, sym, ap, ap₂, ◌∙◌}
use mathlib.Core.Bool.{Bool, true, false, cond}
use Prim.Native.Nat.{ℕ, ◌<◌}
use lib.Dec.{eqb}
use borrow.Author.Tests.{eq-eqb, eqb-true}
use Rattle.answer.proofs.Choice.{cond-true, cond-false}
use Rattle.textbook.specs.Arithmetic.{Arithmetic, Exact}
use Rattle.textbook.specs.Matrices as M
use Rattle.textbook.proofs.Field as F

module _ (N : Arithmetic) (X : Exact N) (n : ℕ) where
  -- cells by row and column
  abbrev pub Cells : Type 0
  Cells = ℕ → ℕ → N.Num

  abbrev pub Same : Cells → Cells → Type 0
  Same f g = (i j : ℕ) → i < n → j < n → f i j ≡ g i j

  pub same_then : {f g h : Cells} → Same f g → Same g h → Same f h
  same_then p q i j hi hj = p i j hi hj ∙ q i j hi hj

  pub same_back : {f g : Cells} → Same f g → Same g f
  same_back p i j hi hj = sym (p i j hi hj)

  abbrev pub product : Cells → Cells → Cells
  product f g i j = M.sum_of N n (λ t. N.times (f i t) (g t j))

  pub product-same : {f g h k : Cells} → Same f g → Same h k → Same (product f h) (product g k)
  product-same {f} {g} {h} {k} p q i j hi hj =
      F.sum_ext N X n (λ t. N.times (f i t) (h t j)) (λ t. N.times (g i t) (k t j)) (λ t l. ap₂ N.times (p i t hi l) (q t j l hj))

  pub record RowOp : Type 0 where
    pub act : Cells → Cells
    pub undo : Cells → Cells
    pub act-same : {f g : Cells} → Same f g → Same (act f) (act g)
    pub undo-same : {f g : Cells} → Same f g → Same (undo f) (undo g)
    pub act-product : (f g : Cells) → Same (act (product f g)) (product (act f) g)
    pub undo-product : (f g : Cells) → Same (undo (product f g)) (product (undo f) g)
    pub undone : (f : Cells) → Same (undo (act f)) f

  unfoldable pub nothing : RowOp
  nothing = record {
    act = λ f. f;
    undo = λ f. f;
    act-same = λ p. p;
    undo-same = λ p. p;
    act-product = λ f g i j hi hj. refl;
    undo-product = λ f g i j hi hj. refl;
    undone = λ f i j hi hj. refl;
  }

  unfoldable pub then : RowOp → RowOp → RowOp
  then a b = record {
    act = λ f. b.act (a.act f);
    undo = λ f. a.undo (b.undo f);
    act-same = λ p. b.act-same (a.act-same p);
    undo-same = λ p. a.undo-same (b.undo-same p);
    act-product = λ f g. same_then (b.act-same (a.act-product f g)) (b.act-product (a.act f) g);
    undo-product = λ f g. same_then (a.undo-same (b.undo-product f g)) (a.undo-product (b.undo f) g);
    undone = λ f. same_then (a.undo-same (b.undone (a.act f))) (a.undone f);
  }

  -- ---- the three operations
  module _ (p c : ℕ) where
    abbrev pub swap : Cells → Cells
    swap f i j = cond (eqb i c) (f p j) (cond (eqb i p) (f c j) (f i j))

    pub swap-product : (f g : Cells) → Same (swap (product f g)) (product (swap f) g)
    swap-product f g i j hi hj = by (eqb i c) (eqb i p)
      where
        by : (b d : Bool) → cond b (product f g p j) (cond d (product f g c j) (product f g i j))
            ≡ M.sum_of N n (λ t. N.times (cond b (f p t) (cond d (f c t) (f i t))) (g t j))
        by true d = refl
        by false true = refl
        by false false = refl

    pub swap-same : p < n → c < n → {f g : Cells} → Same f g → Same (swap f) (swap g)
    swap-same hp hc {f} {g} e i j hi hj = λ k. cond (eqb i c) (e p j hp hj k) (cond (eqb i p) (e c j hc hj k) (e i j hi hj k))

    pub swap-twice : (f : Cells) → Same (swap (swap f)) f
    swap-twice f i j hi hj = by (eqb i c) refl
      where
        at_p : swap f p j ≡ f c j
        at_p = other (eqb p c) refl
          where
            other : (b : Bool) → eqb p c ≡ b → swap f p j ≡ f c j
            other true e = cond-true (f p j) _ e ∙ ap (λ (k : ℕ). f k j) (eqb-true p c e)
            other false e = cond-false (f p j) _ e ∙ cond-true (f c j) (f p j) (eq-eqb p p refl)

        at_c : swap f c j ≡ f p j
        at_c = cond-true (f p j) _ (eq-eqb c c refl)

        by : (b : Bool) → eqb i c ≡ b → swap (swap f) i j ≡ f i j
        by true e = cond-true (swap f p j) _ e ∙ at_p ∙ ap (λ (k : ℕ). f k j) (sym (eqb-true i c e))
        by false e = cond-false (swap f p j) _ e ∙ then_by (eqb i p) refl
          where
            then_by : (b : Bool) → eqb i p ≡ b → cond (eqb i p) (swap f c j) (swap f i j) ≡ f i j
            then_by true d = cond-true (swap f c j) _ d ∙ at_c ∙ ap (λ (k : ℕ). f k j) (sym (eqb-true i p d))
            then_by false d = cond-false (swap f c j) _ d ∙ cond-false (f p j) _ e ∙ cond-false (f c j) (f i j) d

    unfoldable pub swapping : p < n → c < n → RowOp
    swapping hp hc = record {
      act = swap;
      undo = swap;
      act-same = λ {f} {g} e. swap-same hp hc {f = f} {g = g} e;
      undo-same = λ {f} {g} e. swap-same hp hc {f = f} {g = g} e;
      act-product = swap-product;
      undo-product = swap-product;
      undone = swap-twice;
    }

  module _ (c : ℕ) where
    abbrev pub scale : N.Num → Cells → Cells
    scale s f i j = cond (eqb i c) (N.times (f c j) s) (f i j)

    pub scale-product : (s : N.Num) (f g : Cells) → Same (scale s (product f g)) (product (scale s f) g)
    scale-product s f g i j hi hj = by (eqb i c)
      where
        by : (b : Bool) → cond b (N.times (product f g c j) s) (product f g i j)
            ≡ M.sum_of N n (λ t. N.times (cond b (N.times (f c t) s) (f i t)) (g t j))
        by true =
            F.sum-times N X n (λ t. N.times (f c t) (g t j)) s
            ∙ F.sum_ext N X n (λ t. N.times (N.times (f c t) (g t j)) s) (λ t. N.times (N.times (f c t) s) (g t j))
            (λ t l. X.times-assoc (f c t) (g t j) s ∙ ap (N.times (f c t)) (X.times-comm (g t j) s) ∙ sym (X.times-assoc (f c t) s (g t j)))
        by false = refl

    pub scale_same : c < n → (s : N.Num) {f g : Cells} → Same f g → Same (scale s f) (scale s g)
    scale_same hc s {f} {g} e i j hi hj = λ k. cond (eqb i c) (N.times (e c j hc hj k) s) (e i j hi hj k)

    unfoldable pub scaling : c < n → (a s : N.Num) → N.times a s ≡ N.unit → RowOp
    scaling hc a s e = record {
      act = scale s;
      undo = scale a;
      act-same = λ {f} {g} e. scale_same hc s {f = f} {g = g} e;
      undo-same = λ {f} {g} e. scale_same hc a {f = f} {g = g} e;
      act-product = scale-product s;
      undo-product = scale-product a;
      undone = λ f i j hi hj. by f i j (eqb i c) refl;
    }
      where
        by : (f : Cells) (i j : ℕ) (b : Bool) → eqb i c ≡ b → scale a (scale s f) i j ≡ f i j
        by f i j true d =
            cond-true (N.times (scale s f c j) a) _ d
            ∙ ap (λ (x : N.Num). N.times x a) (cond-true (N.times (f c j) s) (f c j) (eq-eqb c c refl))
            ∙ X.times-assoc (f c j) s a
            ∙ ap (N.times (f c j)) (X.times-comm s a ∙ e)
            ∙ X.times-unit (f c j)
            ∙ ap (λ (k : ℕ). f k j) (sym (eqb-true i c d))
        by f i j false d = cond-false (N.times (scale s f c j) a) _ d ∙ cond-false (N.times (f c j) s) (f i j) d

    abbrev pub reduce : (ℕ → N.Num) → Cells → Cells
    reduce g f i j = cond (eqb i c) (f c j) (N.minus (f i j) (N.times (g i) (f c j)))

    abbrev pub restore : (ℕ → N.Num) → Cells → Cells
    restore g f i j = cond (eqb i c) (f c j) (N.plus (f i j) (N.times (g i) (f c j)))

    -- x times z, summed, with y times z, summed, g times: by - and by +
    module _ (x y z : ℕ → N.Num) (g : N.Num) where
      abbrev xz : N.Num
      xz = M.sum_of N n (λ t. N.times (x t) (z t))

      abbrev yz : N.Num
      yz = M.sum_of N n (λ t. N.times (y t) (z t))

      g_inside : N.times g yz ≡ M.sum_of N n (λ t. N.times (N.times g (y t)) (z t))
      g_inside =
          F.times-sum N X n (λ t. N.times (y t) (z t)) g
          ∙ F.sum_ext N X n (λ t. N.times g (N.times (y t) (z t))) (λ t. N.times (N.times g (y t)) (z t))
          (λ t l. sym (X.times-assoc g (y t) (z t)))

      pub less : N.minus xz (N.times g yz) ≡ M.sum_of N n (λ t. N.times (N.minus (x t) (N.times g (y t))) (z t))
      less =
          ap (N.minus xz) g_inside
          ∙ sym (F.sum-minus N X n (λ t. N.times (x t) (z t)) (λ t. N.times (N.times g (y t)) (z t)))
          ∙ F.sum_ext N X n (λ t. N.minus (N.times (x t) (z t)) (N.times (N.times g (y t)) (z t)))
          (λ t. N.times (N.minus (x t) (N.times g (y t))) (z t))
          (λ t l. sym (F.minus-times N X (x t) (N.times g (y t)) (z t)))

      pub more : N.plus xz (N.times g yz) ≡ M.sum_of N n (λ t. N.times (N.plus (x t) (N.times g (y t))) (z t))
      more =
          ap (N.plus xz) g_inside
          ∙ F.sum-plus N X n (λ t. N.times (x t) (z t)) (λ t. N.times (N.times g (y t)) (z t))
          ∙ F.sum_ext N X n (λ t. N.plus (N.times (x t) (z t)) (N.times (N.times g (y t)) (z t)))
          (λ t. N.times (N.plus (x t) (N.times g (y t))) (z t))
          (λ t l. sym (F.plus_times N X (x t) (N.times g (y t)) (z t)))

    unfoldable pub reducing : c < n → (ℕ → N.Num) → RowOp
    reducing hc g = record {
      act = reduce g;
      undo = restore g;
      act-same = λ {f} {g = h} e i j hi hj k. cond (eqb i c) (e c j hc hj k) (N.minus (e i j hi hj k) (N.times (g i) (e c j hc hj k)));
      undo-same = λ {f} {g = h} e i j hi hj k. cond (eqb i c) (e c j hc hj k) (N.plus (e i j hi hj k) (N.times (g i) (e c j hc hj k)));
      act-product = λ f h i j hi hj. down f h i j (eqb i c);
      undo-product = λ f h i j hi hj. up f h i j (eqb i c);
      undone = λ f i j hi hj. by f i j (eqb i c) refl;
    }
      where
        down : (f h : Cells) (i j : ℕ) (b : Bool) → cond b (product f h c j) (N.minus (product f h i j) (N.times (g i) (product f h c j)))
            ≡ M.sum_of N n (λ t. N.times (cond b (f c t) (N.minus (f i t) (N.times (g i) (f c t)))) (h t j))
        down f h i j true = refl
        down f h i j false = less (f i) (f c) (λ t. h t j) (g i)

        up : (f h : Cells) (i j : ℕ) (b : Bool) → cond b (product f h c j) (N.plus (product f h i j) (N.times (g i) (product f h c j)))
            ≡ M.sum_of N n (λ t. N.times (cond b (f c t) (N.plus (f i t) (N.times (g i) (f c t)))) (h t j))
        up f h i j true = refl
        up f h i j false = more (f i) (f c) (λ t. h t j) (g i)

        at_c : (f : Cells) (j : ℕ) → reduce g f c j ≡ f c j
        at_c f j = cond-true (f c j) _ (eq-eqb c c refl)

        by : (f : Cells) (i j : ℕ) (b : Bool) → eqb i c ≡ b → restore g (reduce g f) i j ≡ f i j
        by f i j true d = cond-true (reduce g f c j) _ d ∙ at_c f j ∙ ap (λ (k : ℕ). f k j) (sym (eqb-true i c d))
        by f i j false d =
            cond-false (reduce g f c j) _ d
            ∙ ap₂ (λ (x y : N.Num). N.plus x (N.times (g i) y)) (cond-false (f c j) _ d) (at_c f j)
            ∙ X.minus_plus (f i j) (N.times (g i) (f c j))
