-- `state` meets its contract.
use Rattle.matrix.proofs.Results.{vector-answered}
use Rattle.steps.proofs.Flats.{leading_of}
use Rattle.steps.proofs.Sizes.{sized_given}
use Rattle.sqrt_kalman.proofs.SqrtKalman.state.Goals as goal

pub returns : goal.returns
returns c =
    let f = c.args.self in
    let s = sized_given f.n f.m f.i c.sized.ensures c.in_ok-n.was in
    vector-answered _ s.passed (leading_of f.x s.states c.leading.ensures)
