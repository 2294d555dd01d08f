-- `FilteredState::new` meets its contract.
use Rattle.matrix.proofs.Results.{size_given}
use Rattle.rts_smoother.proofs.Records.{state-done}
use Rattle.rts_smoother.proofs.FilteredState.new.Goals as goal

pub returns : goal.returns
returns c =
    let g = size_given c.args.n c.try_from.ensures c.in_ok-size.was in
    state-done _ _ _ _ g.passed g.size c.leading.ensures c.flat_part.ensures c.leading-2.ensures c.flat_part-2.ensures
