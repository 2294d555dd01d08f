-- `size_of` meets its contract: below 2, below 3, below 4, or none of them.
use mathlib.Core.Path.{refl, ap, ◌∙◌}
use Rattle.sizes.specs.Size.{size_of}
use Rattle.sizes.specs.declared.Size.TheVariants.{Two, Three}
use Rattle.sizes.proofs.Sizes.{size_of-count, exactly, one_of, four_of}
use Rattle.sizes.proofs.size_of.Goals as goal

pub returns-then-n-lt2 : goal.returns-then-n-lt2
returns-then-n-lt2 c = one_of _ c.if-n-lt2.true

pub returns-then-n-lt3 : goal.returns-then-n-lt3
returns-then-n-lt3 c = size_of-count Two ∙ ap size_of (exactly 2 refl c.if-n-lt2.false c.if-n-lt3.true)

pub returns-then-n-lt4 : goal.returns-then-n-lt4
returns-then-n-lt4 c = size_of-count Three ∙ ap size_of (exactly 3 refl c.if-n-lt3.false c.if-n-lt4.true)

pub returns : goal.returns
returns c = four_of _ c.if-n-lt4.false
