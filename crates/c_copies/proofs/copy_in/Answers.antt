-- `copy_in` meets its contract: one part after another.
use mathlib.Core.Path.{refl}
use mathlib.Core.List.{[], ◌∷◌}
use lib.ListN.{length}
use Rattle.std.specs.Prelude.{Ok}
use Rattle.answer.specs.Told.{written}
use Rattle.matrix.proofs.Results.{as_answered}
use Rattle.layout.specs.Layout.{joined}
use Rattle.c_copies.proofs.Filters.{parts_given, put_all}
use Rattle.c_copies.proofs.copy_in.Goals as goal

pub returns : goal.returns
returns g c =
    let a = c.args in
    let s = parts_given g.W.Noise.columns a.n a.m a.i (length a.filter.now) a.a.now a.b.now a.h.now a.q.now a.r.now a.x0.now a.p0.now c.in_ok-at.ensures in
    let is = put_all s a.filter.now refl c.put_slice.ensures c.put_slice-2.ensures c.put_slice-3.ensures c.put_slice-4.ensures c.put_slice-5.ensures c.put_slice-6.ensures c.put_slice-7.ensures in
    as_answered (written a.filter.now) (joined (a.a.now ∷ a.b.now ∷ a.h.now ∷ a.q.now ∷ a.r.now ∷ a.x0.now ∷ a.p0.now ∷ [])) s.passed (λ t. (Ok tt, is t))
