-- `place_of` meets its contract: where the numbers are sizes, the sizes by their type count as many.
use mathlib.Core.Path.{◌≡◌, sym, ap, ◌∙◌}
use mathlib.Core.Bool.{Bool, true, false, ◌&&◌}
use Prim.Native.Nat.{ℕ}
use Rattle.std.specs.Prelude.{cond}
use Rattle.sizes.proofs.Sizes.{is_count}
use Rattle.steps.specs.Step.{well_sized}
use Rattle.steps.proofs.Sizes.{well_sized_lem}
use Rattle.c_copies.specs.declared.Places.{Places}
use Rattle.c_copies.specs.Filter.{estimate_place}
use Rattle.c_copies.proofs.place_of.Goals as goal

pub returns-then-is_size : goal.returns-then-is_size
unfolding well_sized
returns-then-is_size c =
    let a = c.args in
    let e : well_sized a.n a.m a.i ≡ true = sym (λ t. c.is_size.ensures t && (c.is_size-2.ensures t && c.is_size-3.ensures t)) ∙ c.if-is_size.true in
    let s = well_sized_lem a.n a.m a.i e in
    let place : ℕ = estimate_place a.n a.m a.i in
    ap (λ (p : Places). p.x) c.place_parts.ensures
    ∙ (λ t. estimate_place (is_count s.states c.size_of.ensures t) (is_count s.measurements c.size_of-then-is_size.ensures t)
    (is_count s.inputs c.size_of-then-is_size-2.ensures t))
    ∙ ap (λ (b : Bool). cond b place 0) (sym e)

pub returns-else-is_size : goal.returns-else-is_size
unfolding well_sized
returns-else-is_size c =
    let a = c.args in
    let e : well_sized a.n a.m a.i ≡ false = sym (λ t. c.is_size.ensures t && (c.is_size-2.ensures t && c.is_size-3.ensures t)) ∙ c.if-is_size.false in
    ap (λ (b : Bool). cond b (estimate_place a.n a.m a.i) 0) (sym e)
