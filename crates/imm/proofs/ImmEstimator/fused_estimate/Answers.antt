-- `fused_estimate` meets its contract: the weighted states of the bank.
use mathlib.Core.Path.{refl, ap, ◌∙◌}
use Rattle.algebra.specs.Array.{pad_row}
use Rattle.matrix.proofs.Results.{vector-answered}
use Rattle.steps.proofs.Sizes.{sized_given}
use Rattle.imm_steps.proofs.Holders.{fused-held}
use Rattle.imm.proofs.Records.{held, probabilities_are}
use Rattle.imm.proofs.ImmEstimator.fused_estimate.Goals as goal

pub returns : goal.returns
returns c =
    let e = c.args.self in
    let s = sized_given e.n e.m e.k c.sized.ensures c.in_ok-n.was in
    let h = held e c.in_ok-n.n c.in_ok-n.k s.states s.inputs c.states-x.ensures refl in
    vector-answered _ s.passed (c.weighted.ensures ∙ ap pad_row (fused-held h e.mu (probabilities_are e c.in_ok-n.k s.inputs)))
