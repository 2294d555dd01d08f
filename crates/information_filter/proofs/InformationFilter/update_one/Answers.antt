-- `update_one` meets its contract: what `update` tells, read as a number.
use mathlib.Core.Path.{◌≡◌, ◌∙◌}
use Rattle.std.proofs.Common.{arith}
use Rattle.std.proofs.lemmas.Grind.{common_steps}
use Rattle.answer.specs.Answer.{mapped}
use Rattle.algebra.specs.Matrix.{at}
use Rattle.information_filter.proofs.One.{one_step}
use Rattle.information_filter.proofs.InformationFilter.update_one.Goals as goal

pub returns : goal.returns
returns c =
    let u = c.update-answer.result in
    let e : c.map.result ≡ mapped (λ y. at y 0) u.answer = grind (arith, common_steps) in
    (λ k. record { answer = e k; left = u.left }) ∙ one_step c.args.self c.args.z c.update-answer.ensures
