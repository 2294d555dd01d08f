-- Exact arithmetic: differences, and sums of products. Assumes nothing.
use mathlib.Core.Path.{◌≡◌, refl, sym, ap, ap₂, ◌∙◌}
use mathlib.Core.Logic.{⊎_elim}
use Prim.Native.Nat.{ℕ, zero, suc, ◌≤◌, ◌<◌, suc-le-suc}
use native.Mathlib.Nat.{le_of_lt, le_refl, le_of_suc-le-suc, eq-or-lt_of_le}
use native.Mathlib.Omega.{arith}
use Rattle.textbook.specs.Arithmetic.{Arithmetic, Exact}
use Rattle.textbook.specs.Matrices as M

module _ (N : Arithmetic) (X : Exact N) where
  abbrev pub plus : N.Num → N.Num → N.Num
  plus = N.plus

  abbrev pub minus : N.Num → N.Num → N.Num
  minus = N.minus

  abbrev pub times : N.Num → N.Num → N.Num
  times = N.times

  abbrev pub sum_of : ℕ → (ℕ → N.Num) → N.Num
  sum_of = M.sum_of N

  pub nought-plus : (x : N.Num) → plus N.nought x ≡ x
  nought-plus x = X.plus_comm N.nought x ∙ X.plus-nought x

  pub unit-times : (x : N.Num) → times N.unit x ≡ x
  unit-times x = X.times-comm N.unit x ∙ X.times-unit x

  pub plus_times : (x y z : N.Num) → times (plus x y) z ≡ plus (times x z) (times y z)
  plus_times x y z = X.times-comm (plus x y) z ∙ X.times-plus z x y ∙ ap₂ plus (X.times-comm z x) (X.times-comm z y)

  -- (a + b) + (c + d) = (a + c) + (b + d)
  pub plus-plus : (a b c d : N.Num) → plus (plus a b) (plus c d) ≡ plus (plus a c) (plus b d)
  plus-plus a b c d =
      X.plus_assoc a b (plus c d)
      ∙ ap (plus a) (sym (X.plus_assoc b c d) ∙ ap (λ (x : N.Num). plus x d) (X.plus_comm b c) ∙ X.plus_assoc c b d)
      ∙ sym (X.plus_assoc a c (plus b d))

  opposite : N.Num → N.Num
  opposite y = minus N.nought y

  plus-opposite : (y : N.Num) → plus y (opposite y) ≡ N.nought
  unfolding opposite
  plus-opposite y = X.plus_comm y (opposite y) ∙ X.minus_plus N.nought y

  pub plus-minus : (x y : N.Num) → minus (plus x y) y ≡ x
  plus-minus x y = moved (minus (plus x y) y) y ∙ ap (λ (z : N.Num). plus z (opposite y)) (X.minus_plus (plus x y) y) ∙ sym (moved x y)
    where
      moved : (x y : N.Num) → x ≡ plus (plus x y) (opposite y)
      moved x y = sym (X.plus-nought x) ∙ ap (plus x) (sym (plus-opposite y)) ∙ sym (X.plus_assoc x y (opposite y))

  -- what gives x when y is added is x - y
  pub minus-only : (d x y : N.Num) → plus d y ≡ x → d ≡ minus x y
  minus-only d x y e = sym (plus-minus d y) ∙ ap (λ (z : N.Num). minus z y) e

  pub minus-self : (x : N.Num) → minus x x ≡ N.nought
  minus-self x = sym (minus-only N.nought x x (nought-plus x))

  pub minus-nought : (x : N.Num) → minus x N.nought ≡ x
  minus-nought x = sym (minus-only x x N.nought (X.plus-nought x))

  -- what added to y leaves y is zero
  plus-only : (x y : N.Num) → plus x y ≡ y → x ≡ N.nought
  plus-only x y e = minus-only x y y e ∙ minus-self y

  pub times-nought : (x : N.Num) → times x N.nought ≡ N.nought
  times-nought x =
      plus-only (times x N.nought) (times x N.nought)
      (sym (X.times-plus x N.nought N.nought) ∙ ap (times x) (X.plus-nought N.nought))

  pub nought-times : (x : N.Num) → times N.nought x ≡ N.nought
  nought-times x = X.times-comm N.nought x ∙ times-nought x

  pub minus-times : (x y z : N.Num) → times (minus x y) z ≡ minus (times x z) (times y z)
  minus-times x y z =
      minus-only (times (minus x y) z) (times x z) (times y z)
      (sym (plus_times (minus x y) y z) ∙ ap (λ (w : N.Num). times w z) (X.minus_plus x y))

  pub times-minus : (x y z : N.Num) → times x (minus y z) ≡ minus (times x y) (times x z)
  times-minus x y z = X.times-comm x (minus y z) ∙ minus-times y z x ∙ ap₂ minus (X.times-comm y x) (X.times-comm z x)

  -- ---- sums
  pub sum_ext : (n : ℕ) (f g : ℕ → N.Num) → ((t : ℕ) → t < n → f t ≡ g t) → sum_of n f ≡ sum_of n g
  unfolding M.sum_of
  sum_ext zero f g h = refl
  sum_ext (suc n) f g h = ap₂ plus (sum_ext n f g (λ t l. h t (le_of_lt (suc-le-suc l)))) (h n (le_refl (suc n)))

  pub sum-plus : (n : ℕ) (f g : ℕ → N.Num) → plus (sum_of n f) (sum_of n g) ≡ sum_of n (λ t. plus (f t) (g t))
  unfolding M.sum_of
  sum-plus zero f g = X.plus-nought N.nought
  sum-plus (suc n) f g = plus-plus (sum_of n f) (f n) (sum_of n g) (g n) ∙ ap (λ (x : N.Num). plus x (plus (f n) (g n))) (sum-plus n f g)

  pub sum-minus : (n : ℕ) (f g : ℕ → N.Num) → sum_of n (λ t. minus (f t) (g t)) ≡ minus (sum_of n f) (sum_of n g)
  sum-minus n f g =
      minus-only (sum_of n (λ t. minus (f t) (g t))) (sum_of n f) (sum_of n g)
      (sum-plus n (λ t. minus (f t) (g t)) g ∙ sum_ext n (λ t. plus (minus (f t) (g t)) (g t)) f (λ t l. X.minus_plus (f t) (g t)))

  pub sum-times : (n : ℕ) (f : ℕ → N.Num) (s : N.Num) → times (sum_of n f) s ≡ sum_of n (λ t. times (f t) s)
  unfolding M.sum_of
  sum-times zero f s = nought-times s
  sum-times (suc n) f s = plus_times (sum_of n f) (f n) s ∙ ap (λ (x : N.Num). plus x (times (f n) s)) (sum-times n f s)

  pub times-sum : (n : ℕ) (f : ℕ → N.Num) (s : N.Num) → times s (sum_of n f) ≡ sum_of n (λ t. times s (f t))
  times-sum n f s =
      X.times-comm s (sum_of n f) ∙ sum-times n f s ∙ sum_ext n (λ t. times (f t) s) (λ t. times s (f t)) (λ t l. X.times-comm (f t) s)

  -- only the first m of n terms are not zero
  pub sum-front : (m n : ℕ) (f : ℕ → N.Num) → m ≤ n → ((t : ℕ) → m ≤ t → t < n → f t ≡ N.nought) → sum_of n f ≡ sum_of m f
  unfolding M.sum_of
  sum-front m zero f h z = let e : zero ≡ m = omega arith in ap (λ k. sum_of k f) e
  sum-front m (suc n) f h z = ⊎_elim
      (λ e. ap (λ k. sum_of k f) (sym e))
      (λ l. ap₂ plus (sum-front m n f (le_of_suc-le-suc l) (λ t q g. z t q (omega arith))) (z n (le_of_suc-le-suc l) (le_refl (suc n)))
      ∙ X.plus-nought (sum_of m f))
      (eq-or-lt_of_le h)
