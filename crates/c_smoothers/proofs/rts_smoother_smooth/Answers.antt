-- `rts_smoother_smooth` meets its contract: the rows of the transition, and the pass.
use lib.ListN.{length}
use Rattle.duty.proofs.Sizes.{given as size-given}
use Rattle.c_smoothers.specs.Smoother.{is_square}
use Rattle.c_smoothers.proofs.Calls.{square_of, smooth-passed}
use Rattle.c_smoothers.proofs.rts_smoother_smooth.Goals as goal

pub returns : goal.returns
returns c =
    let a = c.args in
    let n = length a.transition.now in
    let g = size-given (is_square a.n n) a.n (λ e. (square_of a.n n e).0) c.square.ensures c.in_ok-size.was in
    smooth-passed a.n a.room a.count a.slots.now a.transition.now a.output.now c.in_ok-size.size g.passed g.size c.matrix_at-f.ensures c.smooth.ensures
