-- `square` meets its contract: the product does not wrap where n is a size.
use Rattle.std.proofs.Common.{arith}
use Rattle.sizes.proofs.Sizes.{bounds_of}
use Rattle.matrix.proofs.Results.{size_given}
use Rattle.duty.proofs.Sizes.{square-small}
use Rattle.c_smoothers.proofs.square.Goals as goal

pub overflow_mul-n : goal.overflow_mul-n
overflow_mul-n c = omega (arith, square-small (bounds_of c.args.n (size_given c.args.n c.try_from.ensures c.in_ok-size.was).passed).most)
