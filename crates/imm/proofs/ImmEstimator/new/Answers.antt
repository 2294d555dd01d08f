-- `new` meets its contract: the used parts, laid flat.
use mathlib.Core.Path.{ap, ◌∙◌}
use Prim.Native.Nat.{ℕ}
use Rattle.algebra.specs.Array.{pad_row}
use Rattle.matrix.proofs.Results.{value_answered}
use Rattle.mixing.specs.Mixing.{uniform}
use Rattle.steps.proofs.Sizes.{sized_given}
use Rattle.steps.proofs.Flats.{flat_of}
use Rattle.imm.proofs.ImmEstimator.new.Goals as goal

pub returns : goal.returns
returns c =
    let a = c.args in
    let s = sized_given _ _ _ c.sized.ensures c.in_ok-sn.was in
    value_answered _ s.passed
    (λ i. record {
      n = a.n;
      m = a.m;
      k = a.k;
      models = a.models;
      transition = flat_of a.transition s.inputs s.inputs c.flat_part.ensures i;
      mu = (c.uniform.ensures ∙ ap (λ (j : ℕ). pad_row (uniform j)) s.inputs) i;
      c = flat_of a.c s.measurements s.states c.flat_part-2.ensures i;
      r = flat_of a.r s.measurements s.measurements c.flat_part-3.ensures i;
    })
