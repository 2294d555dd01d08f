-- `inform_by` meets its contract: the sensor's parts, and the step by them.
use mathlib.Core.Path.{◌∙◌}
use Rattle.sizes.specs.Size.{count}
use Rattle.filtering.specs.Information.{informed, fuse}
use Rattle.information_steps.specs.Step.{information_rows, arrays_of}
use Rattle.c_fusion.proofs.Fusions.{laid, sensor-read, noise-read, measured-read}
use Rattle.c_fusion.proofs.inform_by.Goals as goal

pub returns : goal.returns
unfolding fuse
returns c =
    let a = c.args in
    let L = laid c.requires c.sensor_places-within.ensures in
    c.inform.ensures
    ∙ λ t. arrays_of (informed (count a.n) (count a.m) (sensor-read L c.matrix_at-h.ensures t) (noise-read L c.matrix_at-w.ensures t) (measured-read L c.vector_at-z.ensures t)
    (information_rows a.n a.omega.now a.xi.now))
