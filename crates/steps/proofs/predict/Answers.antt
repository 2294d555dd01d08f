-- `predict` meets its contract: its two parts.
use Rattle.filtering.specs.Filter.{predicted_state}
use Rattle.filtering.specs.Linear.{predict}
use Rattle.steps.proofs.predict.Goals as goal

pub returns : goal.returns
unfolding predict predicted_state
returns c = λ k. (c.predicted_state.ensures k, c.propagated.ensures k)
