-- `step` meets its contract: one kernel after another, by what the inversion answers.
use Rattle.rts_pass.proofs.Steps.{step-done, step-refused}
use Rattle.rts_pass.proofs.step.Goals as goal

pub returns-in_err-w : goal.returns-in_err-w
returns-in_err-w c =
    let a = c.args in
    step-refused a.n a.slots.now a.k c.requires a.f.now a.x.now a.p.now c.from-states.ensures c.pair_length.ensures c.matrix_at-q.ensures c.inverse_of.ensures _
    c.from_residual.ensures.1 c.in_err-w.was

pub returns : goal.returns
returns c =
    let a = c.args in
    step-done a.n a.slots.now a.k c.requires a.f.now a.x.now a.p.now c.from-states.ensures c.pair_length.ensures c.matrix_at-q.ensures c.inverse_of.ensures
    c.in_ok-w.was c.matrix_at-c.ensures c.gain-g.ensures c.vector_at-state.ensures c.vector_at-y.ensures
    c.vector_difference-dx.ensures c.difference-dp.ensures c.corrected_state.ensures c.propagated.ensures
