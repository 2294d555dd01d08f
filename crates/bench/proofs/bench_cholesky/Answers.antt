-- `bench_cholesky` meets its contract.
use mathlib.Core.Path.{ap, ◌∙◌}
use mathlib.Core.List.{List, []}
use lib.Ieee.{Float}
use Rattle.std.specs.Result.{result_unwrap_or}
use Rattle.answer.specs.Answer.{Answer}
use Rattle.algebra.specs.Array.{pad}
use Rattle.bench.proofs.bench_cholesky.Goals as goal

pub returns : goal.returns
unfolding pad
returns c = c.unwrap_or.ensures ∙ ap (λ (a : Answer (List (List Float))). result_unwrap_or a (pad [])) c.cholesky.ensures
