-- `update_by` meets its contract: by what the inversion of the omega that the addition made answers.
use mathlib.Core.Path.{◌≡◌, ◌∙◌}
use Rattle.std.proofs.Common.{arith}
use Rattle.std.proofs.lemmas.Grind.{common_steps}
use Rattle.information_road.specs.Road.{information_of}
use Rattle.information_road.proofs.Ways.{innovated, updated}
use Rattle.information_road.proofs.update_by.Goals as goal

pub returns : goal.returns
returns c =
    let a = c.args in
    let e : c.map-answer.result ≡ innovated a.sensor a.w a.z a.o c.of_estimate.result = grind (arith, common_steps) in
    (λ t. (e t, information_of c.inform-added.result)) ∙ updated a.sensor a.w a.z a.o c.inform-added.result c.of_estimate.result c.inform-added.ensures c.of_estimate.ensures
