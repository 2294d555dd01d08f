-- Exact arithmetic: a rotation keeps inner products; cancelling; and a sum of which one term changes. Assumes nothing.
use mathlib.Core.Path.{◌≡◌, refl, sym, ap, ap₂, ◌∙◌}
use mathlib.Core.Bool.{Bool, true, false}
use Prim.Native.Nat.{ℕ, zero, suc, ◌<◌}
use native.Mathlib.Nat.{le_refl}
use native.Mathlib.Omega.{arith}
use lib.Dec.{eqb}
use borrow.Author.Tests.{eqb-true, eqb-false}
use Rattle.textbook.specs.Arithmetic.{Arithmetic, Exact}
use Rattle.textbook.specs.Matrices as M
use Rattle.textbook.proofs.Field as F

-- ---- two operations that commute, associate and distribute: sums of products, put in one order
pub record Ring {A : Type 0} (plus times : A → A → A) : Type 0 where
  pub pa : (x y z : A) → plus (plus x y) z ≡ plus x (plus y z)
  pub pc : (x y : A) → plus x y ≡ plus y x
  pub pl : (x y z : A) → plus x (plus y z) ≡ plus y (plus x z)
  pub ta : (x y z : A) → times (times x y) z ≡ times x (times y z)
  pub tc : (x y : A) → times x y ≡ times y x
  pub tl : (x y z : A) → times x (times y z) ≡ times y (times x z)
  pub tp : (x y z : A) → times x (plus y z) ≡ plus (times x y) (times x z)
  pub pt : (x y z : A) → times (plus x y) z ≡ plus (times x z) (times y z)

module _ {A : Type 0} {plus times : A → A → A} (ρ : Ring plus times) where
  spread : (c s p q p' q' e : A) → plus (times (plus (times c p) (times s q)) (plus (times c p') (times s q'))) e
      ≡ plus (plus (plus (times (times c c) (times p p')) (times (times s s) (times q q')))
      (plus (times (times s p) (times c q')) (times (times s p') (times c q)))) e
  spread c s p q p' q' e = simp (ρ.tp, ρ.pt, ρ.pa, ρ.pc, ρ.pl, ρ.ta, ρ.tc, ρ.tl)

  gathered : (c s p q p' q' b b' : A)
      → plus (plus (plus (times (times c c) (times p p')) (times (times s s) (times q q')))
      (plus (times (times s p) (plus b' (times s p'))) (times (times s p') (plus b (times s p))))) (times b b')
      ≡ plus (plus (times (times c c) (times p p')) (times (times s s) (times p p')))
      (plus (times (times s s) (times q q')) (times (plus b (times s p)) (plus b' (times s p'))))
  gathered c s p q p' q' b b' = simp (ρ.tp, ρ.pt, ρ.pa, ρ.pc, ρ.pl, ρ.ta, ρ.tc, ρ.tl)

  factored : (c s p q p' q' : A)
      → plus (plus (times (times c c) (times p p')) (times (times s s) (times p p')))
      (plus (times (times s s) (times q q')) (times (times c q) (times c q')))
      ≡ plus (times (plus (times c c) (times s s)) (times p p')) (times (plus (times c c) (times s s)) (times q q'))
  factored c s p q p' q' = simp (ρ.pt, ρ.pa, ρ.pc, ρ.pl, ρ.ta, ρ.tl)

  pub squared : (c s l : A) → times (times (plus (times c c) (times s s)) l) l
      ≡ plus (times (times c l) (times c l)) (times (times s l) (times s l))
  squared c s l = simp (ρ.pt, ρ.ta, ρ.tl)

  pub crossed : (c s r y l : A) → times (plus (times c r) (times s y)) l ≡ plus (times (times c l) r) (times (times s l) y)
  crossed c s r y l = simp (ρ.pt, ρ.ta, ρ.tc)

  pub regrouped : (g v a b : A) → plus (plus g v) (plus a b) ≡ plus (plus g a) (plus v b)
  regrouped g v a b = simp (ρ.pa, ρ.pl)

  pub exchanged : (g b a e : A) → plus (plus g b) (plus a e) ≡ plus (plus g e) (plus a b)
  exchanged g b a e = simp (ρ.pa, ρ.pc, ρ.pl)

module _ (N : Arithmetic) (X : Exact N) where
  abbrev plus : N.Num → N.Num → N.Num
  plus = N.plus

  abbrev times : N.Num → N.Num → N.Num
  times = N.times

  plus-left : (x y z : N.Num) → plus x (plus y z) ≡ plus y (plus x z)
  plus-left x y z = sym (X.plus_assoc x y z) ∙ ap (λ (w : N.Num). plus w z) (X.plus_comm x y) ∙ X.plus_assoc y x z

  times-left : (x y z : N.Num) → times x (times y z) ≡ times y (times x z)
  times-left x y z = sym (X.times-assoc x y z) ∙ ap (λ (w : N.Num). times w z) (X.times-comm x y) ∙ X.times-assoc y x z

  pub ring : Ring N.plus N.times
  ring = record {
    pa = X.plus_assoc;
    pc = X.plus_comm;
    pl = plus-left;
    ta = X.times-assoc;
    tc = X.times-comm;
    tl = times-left;
    tp = X.times-plus;
    pt = F.plus_times N X;
  }

  pub plus_cancel : (x y z : N.Num) → plus x z ≡ plus y z → x ≡ y
  plus_cancel x y z e = sym (F.plus-minus N X x z) ∙ ap (λ (w : N.Num). N.minus w z) e ∙ F.plus-minus N X y z

  pub times_cancel : (x y z : N.Num) → (z ≡ N.nought → ⊥) → times x z ≡ times y z → x ≡ y
  times_cancel x y z h e = sym (out x) ∙ ap (λ (w : N.Num). times w (N.over N.unit z)) e ∙ out y
    where
      out : (x : N.Num) → times (times x z) (N.over N.unit z) ≡ x
      out x = X.times-assoc x z (N.over N.unit z) ∙ ap (times x) (X.times-comm z _ ∙ X.over-times N.unit z h) ∙ X.times-unit x

  -- p turned with q is a, and q turned with p is b; p' and q' alike
  module _ (c s : N.Num) (one : plus (times c c) (times s s) ≡ N.unit) (p q b p' q' b' : N.Num)
      (turn : plus b (times s p) ≡ times c q) (turn' : plus b' (times s p') ≡ times c q') where
    abbrev a : N.Num
    a = plus (times c p) (times s q)

    abbrev a' : N.Num
    a' = plus (times c p') (times s q')

    pub rotation : plus (times a a') (times b b') ≡ plus (times p p') (times q q')
    rotation =
        spread ring c s p q p' q' (times b b')
        ∙ ap₂ (λ (x y : N.Num). plus
        (plus (plus (times (times c c) (times p p')) (times (times s s) (times q q'))) (plus (times (times s p) x) (times (times s p') y)))
        (times b b')) (sym turn') (sym turn)
        ∙ gathered ring c s p q p' q' b b'
        ∙ ap₂ (λ (x y : N.Num). plus (plus (times (times c c) (times p p')) (times (times s s) (times p p')))
        (plus (times (times s s) (times q q')) (times x y))) turn turn'
        ∙ factored ring c s p q p' q'
        ∙ ap (λ (x : N.Num). plus (times x (times p p')) (times x (times q q'))) one
        ∙ ap₂ plus (F.unit-times N X (times p p')) (F.unit-times N X (times q q'))

  -- ---- one term changes
  pub sum-change : (n k : ℕ) (f g : ℕ → N.Num) → k < n → ((t : ℕ) → t < n → (t ≡ k → ⊥) → f t ≡ g t) → plus (M.sum_of N n f) (g k)
      ≡ plus (M.sum_of N n g) (f k)
  unfolding M.sum_of
  sum-change zero k f g h e = absurd (omega arith)
  sum-change (suc n) k f g h e = by (eqb n k) refl (λ l. sum-change n k f g l (λ t h q. e t (omega arith) q))
    where
      by : (b : Bool) → eqb n k ≡ b → (k < n → plus (M.sum_of N n f) (g k) ≡ plus (M.sum_of N n g) (f k))
          → plus (plus (M.sum_of N n f) (f n)) (g k) ≡ plus (plus (M.sum_of N n g) (g n)) (f k)
      by true q again =
          let same : n ≡ k = eqb-true n k q in
          ap₂ (λ (x y : N.Num). plus (plus x (f n)) y) (F.sum_ext N X n f g (λ t l. e t (omega arith) (λ z. omega arith))) (ap g (sym same))
          ∙ X.plus_assoc (M.sum_of N n g) (f n) (g n)
          ∙ ap (plus (M.sum_of N n g)) (X.plus_comm (f n) (g n))
          ∙ sym (X.plus_assoc (M.sum_of N n g) (g n) (f n))
          ∙ ap (λ (x : N.Num). plus (plus (M.sum_of N n g) (g n)) x) (ap f same)
      by false q again =
          let differ : n ≡ k → ⊥ = eqb-false n k q in
          moved (M.sum_of N n f) (f n) (g k)
          ∙ ap₂ plus (again (omega (arith, differ))) (e n (le_refl (suc n)) differ)
          ∙ moved (M.sum_of N n g) (f k) (g n)
        where
          moved : (x y z : N.Num) → plus (plus x y) z ≡ plus (plus x z) y
          moved x y z = X.plus_assoc x y z ∙ ap (plus x) (X.plus_comm y z) ∙ sym (X.plus_assoc x z y)
