-- `give_matrix` meets its contract: a place that passes the test is just as long as the sizes of its numbers say.
use mathlib.Core.Path.{◌∙◌}
use Rattle.answer.specs.Told.{written}
use Rattle.c_slices.specs.Told.{matrix_told}
use Rattle.c_slices.proofs.Ways.{whole_of, long_at}
use Rattle.c_slices.proofs.give_matrix.Goals as goal

pub returns : goal.returns
returns c e =
    let a = c.args in
    let w = whole_of _ _ a.out.now _ _ e c.size_of.ensures c.size_of-2.ensures in
    c.give_part.ensures (long_at w w.rows w.cols) ∙ (λ i. written a.out.now (matrix_told (w.rows i) (w.cols i) a.answer))
