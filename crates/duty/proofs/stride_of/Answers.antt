-- `stride_of` meets its contract: where the number is a size, the size by its type counts as many.
use mathlib.Core.Path.{◌≡◌, sym, ap, ◌∙◌}
use mathlib.Core.Bool.{Bool, true}
use Rattle.std.specs.Prelude.{cond}
use Rattle.sizes.specs.Size.{sized}
use Rattle.sizes.proofs.Sizes.{is_count}
use Rattle.layout.specs.Layout.{stride}
use Rattle.duty.proofs.stride_of.Goals as goal

pub returns-then-is_size : goal.returns-then-is_size
returns-then-is_size c =
    let n = c.args.n in
    let e : sized n ≡ true = sym c.is_size.ensures ∙ c.if-is_size.true in
    c.stride.ensures ∙ ap stride (is_count e c.size_of.ensures) ∙ ap (λ (t : Bool). cond t (stride n) 0) (sym e)
