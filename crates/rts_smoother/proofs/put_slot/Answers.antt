-- `put_slot` meets its contract: the predicted pair stands right after the filtered one.
use mathlib.Core.Path.{ap, ◌∙◌, subst}
use mathlib.Core.List.{◌++◌}
use Prim.Native.Nat.{ℕ, ◌+◌, ◌≤◌}
use native.Mathlib.Omega.{arith}
use Rattle.sizes.proofs.Sizes.{bounds}
use Rattle.sizes.specs.Size.{front, part}
use Rattle.layout.specs.Layout.{joined, put_at, pair_length}
use Rattle.duty.proofs.Pairs.{pair-placed}
use Rattle.rts_smoother.proofs.Records.{slot_placed}
use Rattle.rts_smoother.proofs.put_slot.Goals as goal

pub returns : goal.returns
returns c =
    let a = c.args in
    let n = c.requires.0 in
    let long = c.pair_length.ensures ∙ ap pair_length n in
    slot_placed a.s a.b.now (subst (λ (m : ℕ). m ≤ 4) n (bounds a.n).most) (omega (arith, c.requires)) c.from_flat-p.ensures c.from_flat-q.ensures
    (pair-placed a.k a.b.now a.s.x c.from_flat-p.result n (omega (arith, c.requires)) c.put_pair.ensures)
    (pair-placed (a.k + pair_length a.s.n) _ a.s.x_pred c.from_flat-q.result n (omega (arith, c.requires, c.put_pair.auto.b)) (c.put_pair-2.ensures ∙ ap (λ (j : ℕ). put_at (a.k + j) (front a.n a.s.x_pred ++ joined (part a.n a.n c.from_flat-q.result)) c.put_pair.new.b) long))
