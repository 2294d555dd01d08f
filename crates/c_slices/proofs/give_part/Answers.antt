-- `give_part` meets its contract: what is answered is put.
use mathlib.Core.Path.{refl, sym, ap, ◌∙◌}
use mathlib.Core.List.{List}
use lib.Ieee.{Float}
use Rattle.std.specs.Prelude.{Ok}
use Rattle.answer.specs.Answer.{Answer}
use Rattle.answer.specs.Told.{written}
use Rattle.sizes.specs.Size.{count}
use Rattle.c_slices.specs.Told.{matrix_told}
use Rattle.c_slices.proofs.Ways.{matrix-out}
use Rattle.c_slices.proofs.give_part.Goals as goal

pub returns : goal.returns
returns c e =
    let a = c.args in
    ap (λ (l : List Float). (Ok tt, l)) (matrix-out _ _ e refl refl c.put_matrix.ensures)
    ∙ ap (λ (m : Answer (List (List Float))). written a.out.now (matrix_told (count a.r) (count a.c) m)) (sym c.in_ok-answer.was)
