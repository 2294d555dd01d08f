-- A product does not depend on the order of its factors. Assumes nothing.
use mathlib.Core.Path.{◌≡◌, refl, ap, ap₂, ◌∙◌}
use mathlib.Core.Bool.{Bool, true, false, cond}
use Prim.Native.Nat.{ℕ, ◌*◌}
use native.Mathlib.Nat.{mul_comm}
use lib.Dec.{eqb}
use lib.Ieee.{Float, nan, inf, fin, binary64, unlike, up, down, round, mul}
use Rattle.scalar.specs.Number.{◌⊗◌}

unlike_comm : (s t : Bool) → unlike s t ≡ unlike t s
unlike_comm false false = refl
unlike_comm false true = refl
unlike_comm true false = refl
unlike_comm true true = refl

pub times-comm : (x y : Float) → x ⊗ y ≡ y ⊗ x
unfolding mul
times-comm nan nan = refl
times-comm nan (inf t) = refl
times-comm nan (fin t n d) = refl
times-comm (inf s) nan = refl
times-comm (inf s) (inf t) = ap inf (unlike_comm s t)
times-comm (inf s) (fin t n d) = ap (λ (u : Bool). cond (eqb n 0) nan (inf u)) (unlike_comm s t)
times-comm (fin s m e) nan = refl
times-comm (fin s m e) (inf t) = ap (λ (u : Bool). cond (eqb m 0) nan (inf u)) (unlike_comm s t)
times-comm (fin s m e) (fin t n d) =
    ap₂ (λ (u : Bool) (k : ℕ). round binary64 u k (down e * down d)) (unlike_comm s t) (mul_comm (m * up e) (n * up d))
    ∙ ap (λ (k : ℕ). round binary64 (unlike t s) (n * up d * (m * up e)) k) (mul_comm (down e) (down d))
