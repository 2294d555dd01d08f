-- The stage of whole metres by the first end that is not below them. Assumes nothing.
use mathlib.Core.Path.{◌≡◌, refl}
use mathlib.Core.Bool.{Bool, true, false, not, cond}
use mathlib.Core.List.{List, [], ◌∷◌}
use Prim.Native.Nat.{ℕ, suc, ◌+◌, ◌≤◌}
use native.Mathlib.Omega.{arith}
use lib.Dec.{ltb}
use lib.IntN.{ℤ, pos, negsuc}
use lib.ListN.{length}
use borrow.Author.Tests.{ltb-true, ltb-false}
use Rattle.std.specs.Prelude.{None, Some, int_le, position}
use Rattle.std.specs.List.{prefix_len}
use Rattle.std.proofs.lemmas.Option.{cond_some}
use Rattle.sheets.specs.Stage.{not_below, passed, stage_of}
use Rattle.sheet_reader.proofs.Fill.{cond_none}

test : (e : ℕ) (z : ℤ) → int_le z (pos e) ≡ not_below e z
test e (pos m) = refl
test e (negsuc n) = refl

abbrev before : ℤ → List ℕ → ℕ
before z es = prefix_len (λ (e : ℕ). not (int_le z (pos e))) es

all_before : (es : List ℕ) (z : ℤ) → before z es ≡ passed es z
unfolding passed
all_before [] z = refl
all_before (e ∷ es) z = rw (test e z, all_before es z) (go (not_below e z))
  where
    go : (b : Bool) → cond (not b) (1 + passed es z) 0 ≡ cond b 0 (suc (passed es z))
    go true = refl
    go false = omega arith

module _ (es : List ℕ) (z : ℤ) where
  pub stage_some : (k : ℕ) → position (λ (e : ℕ). int_le z (pos e)) es ≡ Some k → k + 1 ≡ stage_of es z
  unfolding stage_of
  stage_some k e =
      let v = cond_some (ltb (before z es) (length es)) (before z es) k e in
      let h = ltb-true (before z es) (length es) v.0 in
      let p = all_before es z in
      omega (arith, v.1)

  pub stage_none : position (λ (e : ℕ). int_le z (pos e)) es ≡ None → length es ≡ stage_of es z
  unfolding stage_of
  stage_none e =
      let h = ltb-false (before z es) (length es) (cond_none (ltb (before z es) (length es)) (before z es) e) in
      let p = all_before es z in
      omega arith

  pub stage_small : stage_of es z ≤ length es
  unfolding stage_of
  stage_small = omega arith
