-- A sum does not depend on the order of its terms. Assumes nothing.
use mathlib.Core.Path.{◌≡◌, refl, sym, ap, ◌∙◌}
use mathlib.Core.Bool.{Bool, true, false, ◌&&◌, cond, beq}
use Prim.Native.Nat.{ℕ, ◌-◌, ◌*◌}
use native.Mathlib.Nat.{add_comm, mul_comm}
use native.Mathlib.Omega.{arith}
use lib.Dec.{ltb}
use borrow.Author.Tests.{ltb-true, ltb-false}
use lib.Ieee.{Float, nan, inf, fin, binary64, up, down, round, sum, add}
use Rattle.scalar.specs.Number.{◌⊕◌}

and_false : (s : Bool) → s && false ≡ false
and_false true = refl
and_false false = refl

and_true : (s : Bool) → s && true ≡ s
and_true true = refl
and_true false = refl

-- of two numbers of unlike signs s and t: the larger magnitude decides
module _ (c : ℕ) where
  unlike_sum : (s t : Bool) (a b : ℕ) {u v : Bool} → ltb a b ≡ u → ltb b a ≡ v
      → cond (ltb a b) (round binary64 t (b - a) c) (round binary64 (s && ltb b a) (a - b) c) ≡ cond (ltb b a) (round binary64 s (a - b) c) (round binary64 (t && ltb a b) (b - a) c)
  unlike_sum s t a b {u} {v} e f =
      (λ i. cond (e i) (round binary64 t (b - a) c) (round binary64 (s && f i) (a - b) c)) ∙ go u v e f ∙ sym (λ i. cond (f i) (round binary64 s (a - b) c) (round binary64 (t && e i) (b - a) c))
    where
      go : (u v : Bool) → ltb a b ≡ u → ltb b a ≡ v
          → cond u (round binary64 t (b - a) c) (round binary64 (s && v) (a - b) c) ≡ cond v (round binary64 s (a - b) c) (round binary64 (t && u) (b - a) c)
      go true true e f = absurd (omega (arith, ltb-true a b e, ltb-true b a f))
      go true false e f = ap (λ (w : Bool). round binary64 w (b - a) c) (sym (and_true t))
      go false true e f = ap (λ (w : Bool). round binary64 w (a - b) c) (and_true s)
      go false false e f =
          let same : a - b ≡ b - a = omega (arith, ltb-false a b e, ltb-false b a f) in
          (λ i. round binary64 (and_false s i) (same i) c) ∙ ap (λ (w : Bool). round binary64 w (b - a) c) (sym (and_false t))

  sum_comm : (s t : Bool) (a b : ℕ) → sum binary64 s a t b c ≡ sum binary64 t b s a c
  unfolding sum
  sum_comm true true a b = ap (λ (k : ℕ). round binary64 true k c) (add_comm a b)
  sum_comm false false a b = ap (λ (k : ℕ). round binary64 false k c) (add_comm a b)
  sum_comm true false a b = unlike_sum true false a b refl refl
  sum_comm false true a b = unlike_sum false true a b refl refl

inf_comm : (s t : Bool) → cond (beq s t) (inf s) nan ≡ cond (beq t s) (inf t) nan
inf_comm true true = refl
inf_comm true false = refl
inf_comm false true = refl
inf_comm false false = refl

pub plus_comm : (x y : Float) → x ⊕ y ≡ y ⊕ x
unfolding add
plus_comm nan nan = refl
plus_comm nan (inf t) = refl
plus_comm nan (fin t n d) = refl
plus_comm (inf s) nan = refl
plus_comm (inf s) (inf t) = inf_comm s t
plus_comm (inf s) (fin t n d) = refl
plus_comm (fin s m e) nan = refl
plus_comm (fin s m e) (inf t) = refl
plus_comm (fin s m e) (fin t n d) =
    sum_comm (down e * down d) s t (m * up e * down d) (n * up d * down e)
    ∙ ap (λ (k : ℕ). sum binary64 t (n * up d * down e) s (m * up e * down d) k) (mul_comm (down e) (down d))
