-- `pairs` meets its contract: a test of the size, and then of the length.
use Rattle.std.proofs.Common.{◌∙◌, ap, rules}
use Rattle.matrix.proofs.Results.{size_given}
use Rattle.layout.specs.Layout.{pair_length}
use Rattle.c_smoothers.specs.Smoother.{is_pairs}
use Rattle.c_smoothers.proofs.pairs.Goals as goal

pub returns-in_err-fits : goal.returns-in_err-fits
unfolding is_pairs
returns-in_err-fits c =
    let f = rw (c.pair_length.ensures ∙ ap pair_length (size_given c.args.n c.try_from.ensures c.in_ok-size.was).size) at c.fits.ensures in
    search rules

pub returns : goal.returns
unfolding is_pairs
returns c =
    let f = rw (c.pair_length.ensures ∙ ap pair_length (size_given c.args.n c.try_from.ensures c.in_ok-size.was).size) at c.fits.ensures in
    search rules
