-- `leading` meets its contract: each way out writes the row for one size.
use Rattle.algebra.specs.Array.{cut}
use Rattle.sizes.proofs.Sizes.{exactly, is_one, is_four}
use Rattle.rows.proofs.Kernels.{leading_at}
use Rattle.rows.proofs.leading.Goals as goal

pub returns-then-k-lt2 : goal.returns-then-k-lt2
unfolding cut
returns-then-k-lt2 c = leading_at 1 _ c.args.v (is_one c.args.n c.from-k.ensures c.if-k-lt2.true)

pub returns-then-k-lt3 : goal.returns-then-k-lt3
unfolding cut
returns-then-k-lt3 c = leading_at 2 _ c.args.v (exactly 2 c.from-k.ensures c.if-k-lt2.false c.if-k-lt3.true)

pub returns-then-k-lt4 : goal.returns-then-k-lt4
unfolding cut
returns-then-k-lt4 c = leading_at 3 _ c.args.v (exactly 3 c.from-k.ensures c.if-k-lt3.false c.if-k-lt4.true)

pub returns : goal.returns
unfolding cut
returns c = leading_at 4 _ c.args.v (is_four c.args.n c.from-k.ensures c.if-k-lt4.false)
