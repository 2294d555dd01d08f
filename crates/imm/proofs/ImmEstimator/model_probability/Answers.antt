-- `model_probability` meets its contract: a model that is there is one of four.
use mathlib.Core.Path.{◌≡◌, sym, ◌∙◌}
use Prim.Native.Nat.{ℕ, ◌<◌}
use native.Mathlib.Omega.{arith}
use lib.Dec.{ltb}
use borrow.Author.Tests.{ltb-true}
use Rattle.std.specs.Prelude.{Ok}
use Rattle.answer.specs.Answer.{Answer, where_sized}
use Rattle.answer.proofs.Answers.{passed}
use Rattle.sizes.specs.declared.Size.{Size}
use Rattle.sizes.specs.Size.{count}
use Rattle.sizes.proofs.Sizes.{bounds}
use Rattle.steps.proofs.Sizes.{sized_given}
use Rattle.imm.proofs.ImmEstimator.model_probability.Goals as goal

there : (s : Size) {j k : ℕ} {o : Answer (Unit {0})} → count s ≡ k → o ≡ where_sized (ltb j k) tt → o ≡ Ok tt → j < 4
there s {j} {k} e p q = let h = ltb-true j k (passed (ltb j k) tt (sym p ∙ q)) in omega (arith, bounds s)

pub offset_bounds-self-j : goal.offset_bounds-self-j
offset_bounds-self-j c =
    let h = there c.in_ok-sized.field-0.2 (sized_given _ _ _ c.sized.ensures c.in_ok-sized.was).inputs c.fits.ensures c.in_ok-fits.was in
    omega arith

pub bounds-self-j : goal.bounds-self-j
bounds-self-j c = there c.in_ok-sized.field-0.2 (sized_given _ _ _ c.sized.ensures c.in_ok-sized.was).inputs c.fits.ensures c.in_ok-fits.was
