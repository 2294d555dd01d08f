-- `information_vector` meets its contract.
use Rattle.matrix.proofs.Results.{vector-answered}
use Rattle.steps.proofs.Sizes.{sized_given}
use Rattle.steps.proofs.Flats.{leading_of}
use Rattle.information_filter.proofs.InformationFilter.information_vector.Goals as goal

pub returns : goal.returns
returns c =
    let s = sized_given _ _ _ c.sized.ensures c.in_ok-n.was in
    vector-answered _ s.passed (leading_of _ s.states c.leading.ensures)
