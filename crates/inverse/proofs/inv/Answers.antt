-- `inv` meets its contract: by its size, which is tested.
use mathlib.Core.Path.{sym, ap, ◌∙◌}
use Rattle.std.specs.Prelude.{Ok}
use Rattle.algebra.specs.Array.{cut, used}
use Rattle.matrix.specs.Result.{as_matrix}
use Rattle.matrix.proofs.Results.{size_given, if_answered}
use Rattle.sizes.specs.Size.{count}
use Rattle.answer.proofs.Exits.{exit}
use Rattle.inverse.proofs.Elimination.{inv_at, inv-read}
use Rattle.inverse.proofs.inv.Goals as goal

pub returns-in-One : goal.returns-in-One
unfolding used cut
returns-in-One c =
    let s = size_given _ c.try_from.ensures c.in_ok-size.was in
    if_answered as_matrix _ s.passed (c.of_one.ensures ∙ inv_at c.args.a (ap count (sym c.in-One.is) ∙ s.size))

pub returns-in-Two : goal.returns-in-Two
unfolding used cut
returns-in-Two c =
    let s = size_given _ c.try_from.ensures c.in_ok-size.was in
    if_answered as_matrix _ s.passed (c.of_two.ensures ∙ inv_at c.args.a (ap count (sym c.in-Two.is) ∙ s.size))

pub returns-in_err-eliminate-in-Three : goal.returns-in_err-eliminate-in-Three
returns-in_err-eliminate-in-Three c =
    let s = size_given _ c.try_from.ensures c.in_ok-size.was in
    if_answered as_matrix _ s.passed
    (exit c.from_residual-in_err-eliminate-in-Three.ensures.1 ∙ sym c.in_err-eliminate-in-Three.was ∙ c.eliminate.ensures ∙ inv_at c.args.a s.size)

pub returns-in_ok-eliminate-in-Three : goal.returns-in_ok-eliminate-in-Three
returns-in_ok-eliminate-in-Three c =
    let s = size_given _ c.try_from.ensures c.in_ok-size.was in
    if_answered as_matrix _ s.passed
    (ap Ok c.read_again.ensures ∙ inv-read c.in_ok-size.size c.args.a c.eliminate.ensures c.in_ok-eliminate-in-Three.was ∙ inv_at c.args.a s.size)
