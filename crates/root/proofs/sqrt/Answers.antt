-- `root::sqrt` meets its contract.
use mathlib.Core.Path.{◌≡◌, sym, ap, ◌∙◌, subst}
use mathlib.Core.Bool.{true, false}
use mathlib.Core.Logic.{◌⊎◌, inl, inr}
use Prim.Native.Nat.{ℕ, ◌<◌}
use native.Mathlib.Omega.{arith}
use lib.Dec.{T}
use lib.Ieee.{Float, nan, inf, fin, binary64, fits, to_bits, of_bits, is_nan}
use lib.Ieee.Bits.{of_bits-to_bits, to_bits-lt}
use Rattle.root.specs.Weights.{infinity, sign_bit}
use Rattle.root.specs.Root.{root}
use Rattle.root.proofs.Patterns.{up_to}
use Rattle.root.proofs.Roots.{Same, is_same, plus-zero, minus-zero, infinite, negative-root, of_nan}
use Rattle.root.proofs.sqrt.Goals as goal

-- a NaN is its own root
nan_root : (x : Float) → is_nan x ≡ true → x ≡ root x
unfolding is_nan
nan_root nan e = sym of_nan
nan_root (inf s) e = cc
nan_root (fin s m d) e = cc

-- by the bits of a number that the format holds
own_root : (x : Float) → fits binary64 x ≡ true → Same (to_bits binary64 x) → x ≡ root x
own_root x h e = subst (λ (y : Float). y ≡ root y) (of_bits-to_bits binary64 x (subst T (sym h) tt)) (sym e)

either-root : (b : ℕ) → (b ≡ infinity) ⊎ ((b ≡ infinity → ⊥) × (b ≡ sign_bit)) → Same b
either-root b (inl e) = is_same infinite e
either-root b (inr e) = is_same minus-zero e.1

root_by_bits : (x r : Float) → fits binary64 x ≡ true → r ≡ root (of_bits binary64 (to_bits binary64 x)) → r ≡ root x
root_by_bits x r h e = e ∙ ap root (of_bits-to_bits binary64 x (subst T (sym h) tt))

negative : (x : Float) → fits binary64 x ≡ true → is_nan x ≡ false → infinity < to_bits binary64 x → (to_bits binary64 x ≡ sign_bit → ⊥) → nan ≡ root x
negative x h n over other =
    let t : T (fits binary64 x) = subst T (sym h) tt in
    let u = up_to x t n in
    let l : sign_bit < to_bits binary64 x = omega arith in
    root_by_bits x nan h (sym (negative-root (to_bits binary64 x) l (to_bits-lt binary64 x t)))

pub returns-then-is_nan : goal.returns-then-is_nan
returns-then-is_nan c = nan_root c.args.x (sym c.is_nan.ensures.value ∙ c.if-is_nan.true)

pub returns-then-b-eq0 : goal.returns-then-b-eq0
returns-then-b-eq0 c = own_root c.args.x c.well_formed.0.1 (is_same plus-zero c.if-b-eq0.true)

pub returns-else-b-eq0 : goal.returns-else-b-eq0
returns-else-b-eq0 c = root_by_bits c.args.x _ c.well_formed.0.1 c.subnormal.ensures

pub returns-then-b-lt-INFINITY : goal.returns-then-b-lt-INFINITY
returns-then-b-lt-INFINITY c = root_by_bits c.args.x _ c.well_formed.0.1 c.normal.ensures

pub returns-then-b : goal.returns-then-b
returns-then-b c = own_root c.args.x c.well_formed.0.1 (either-root _ c.if-b.either)

pub returns-else-b : goal.returns-else-b
unfolding of_bits
returns-else-b c = negative c.args.x c.well_formed.0.1 (sym c.is_nan.ensures.value ∙ c.if-is_nan.false) (omega arith) c.if-b.false.1
