-- `put_road` meets its contract: six numbers are copied.
use mathlib.Core.List.{[], ◌∷◌}
use Rattle.layout.proofs.Calls.{slice-put}
use Rattle.c_imm.proofs.put_road.Goals as goal

pub returns : goal.returns
returns c =
    let a = c.args in
    let e = a.e in
    slice-put a.k a.b.now (e.x0 ∷ e.x1 ∷ e.p.a ∷ e.p.b ∷ e.p.c ∷ e.p.d ∷ []) c.requires c.put_slice.ensures
