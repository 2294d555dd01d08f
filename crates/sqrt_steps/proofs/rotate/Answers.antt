-- `rotate` meets its contract: by what the diagonal's test answers.
use mathlib.Core.Path.{refl, sym, ◌∙◌}
use Rattle.sqrt_steps.proofs.Columns.{when_turned}
use Rattle.sqrt_steps.proofs.rotate.Goals as goal

pub returns : goal.returns
returns c =
    let a = c.args in
    when_turned a.n a.k a.l.now a.v.now c.requires (sym c.turned_diagonal.ensures ∙ c.in_ok-d.was) refl
    c.turned_column.ensures c.with_column-turned.ensures c.used_part.ensures c.turned_vector.ensures c.leading.ensures
