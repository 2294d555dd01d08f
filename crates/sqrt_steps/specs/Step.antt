-- A step of the square-root filter on arrays of four rows of four: what they hold, and how its outcome is handed over in them. Definitions only.
use Rattle.std.specs.Prelude.{ℕ, cond, List, eqb, ltb, Ok, Err, Float}
use Rattle.answer.specs.Answer.{Answer, mapped}
use Rattle.answer.specs.Outcome.{Outcome, standing}
use Rattle.answer.specs.Table.{table}
use Rattle.scalar.specs.Number.{◌⊖◌, ◌⊗◌, ◌⊘◌}
use Rattle.algebra.specs.Matrix.{Vector, Matrix, at, cell, mat}
use Rattle.algebra.specs.Array.{pad_row, pad}
use Rattle.sizes.specs.declared.Size.{Size}
use Rattle.sizes.specs.Size.{count, front, part}
use Rattle.filtering.specs.Filter.{Sensor}
use Rattle.filtering.specs.SquareRoot.{Factored, factored}
use Rattle.steps.specs.Step.{Rows}

-- ---- a column of four cells as the downdate turns it; v, turned with the column as it was; and rows with another column k
unfoldable pub turned_column : ℕ → Float → Float → Float → List Float → List Float → List Float
turned_column k d c s column v = table 4 (λ i. cond (ltb k i) ((at column i ⊖ s ⊗ at v i) ⊘ c) (cond (eqb k i) d (at column i)))

unfoldable pub turned_vector : ℕ → Float → Float → List Float → List Float → List Float
turned_vector k c s column v = table 4 (λ i. cond (ltb k i) (c ⊗ at v i ⊖ s ⊗ at column i) (at v i))

unfoldable pub with_column : ℕ → List Float → Rows → Rows
with_column k column l = mat 4 4 (λ i j. cond (eqb k j) (at column i) (cell l i j))

-- ---- what the arrays hold, for n states and m measurements
abbrev pub channel_rows : Size → Size → Rows → List Float → Sensor Vector
channel_rows n m h r = record { n = count n; m = count m; h = part m n h; r = front m r }

abbrev pub factored_rows : Size → List Float → Rows → Factored
factored_rows n x l = factored (front n x) (part n n l)

-- ---- what is told where no number goes with it: that it is done, or the refusal
abbrev pub ended : {A : Type 0} → Answer A → Answer (Unit {0})
ended a = mapped (λ x. tt) a

-- ---- an outcome in the arrays x and l, where it leaves a state and a factor
abbrev pub arrays_of : Factored → List Float × Rows
arrays_of f = (pad_row f.state, pad f.factor)

-- a column's: the vector that is told stands in the place of v
abbrev pub told_in : List Float → Answer Vector → List Float
told_in v (Err k) = v
told_in v (Ok w) = pad_row w

abbrev pub rotated_rows : Rows → List Float → Outcome Matrix Vector → Answer (Unit {0}) × (Rows × List Float)
rotated_rows l v o = (ended o.told, (standing pad l o.left, told_in v o.told))
