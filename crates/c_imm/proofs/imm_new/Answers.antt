-- `imm_new` meets its contract: one part after another, and the probabilities.
use native.Mathlib.Omega.{arith}
use mathlib.Core.Path.{refl, sym}
use mathlib.Core.List.{[], ◌∷◌}
use Rattle.std.specs.Prelude.{Ok}
use Rattle.answer.specs.Told.{written}
use Rattle.matrix.proofs.Results.{as_answered}
use Rattle.mixing.specs.Mixing.{uniform}
use Rattle.layout.specs.Layout.{joined}
use Rattle.layout.proofs.Places.{placed-none}
use Rattle.c_imm.proofs.Puts.{given_of, put_next, put_last, put_all, uniform-put}
use Rattle.c_imm.proofs.imm_new.Goals as goal

pub returns : goal.returns
returns c =
    let a = c.args in
    let b = a.bank.now in
    let g = given_of a.models.now a.transition.now a.c.now a.r.now c.parts.ensures c.in_ok-places.was in
    let p = g.places in
    let e0 = put_next g b 0 (omega arith) refl (omega (arith, g, p.whole.long)) (sym (placed-none 0 b)) c.put_slice.ensures in
    let e1 = put_next g b 1 (omega arith) (omega (arith, p)) (omega (arith, g, p, p.whole.long)) e0 c.put_slice-2.ensures in
    let e2 = put_next g b 2 (omega arith) (omega (arith, p)) (omega (arith, g, p, p.whole.long)) e1 c.put_slice-3.ensures in
    let e3 = put_next g b 3 (omega arith) (omega (arith, p)) (omega (arith, g, p, p.whole.long)) e2 c.put_slice-4.ensures in
    let e4 = put_last g b (omega (arith, p)) (omega (arith, p, p.whole.long)) e3 (uniform-put c.in_ok-places.places.k p.models c.uniform.ensures) c.put_vector.ensures in
    let is = put_all g b refl e4 in
    as_answered (written b) (joined (a.models.now ∷ a.transition.now ∷ a.c.now ∷ a.r.now ∷ uniform a.k ∷ [])) g.passed (λ i. (Ok tt, is i))
