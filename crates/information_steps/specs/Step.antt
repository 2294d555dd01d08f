-- A step of the information filter on arrays of four rows of four: what they hold, and how its outcome is handed over in them. Definitions only.
use Rattle.std.specs.Prelude.{List, Float}
use Rattle.answer.specs.Answer.{mapped}
use Rattle.answer.specs.Outcome.{Outcome, this}
use Rattle.algebra.specs.Matrix.{Vector, Matrix}
use Rattle.algebra.specs.Array.{pad_row, pad}
use Rattle.sizes.specs.declared.Size.{Size}
use Rattle.sizes.specs.Size.{front, part}
use Rattle.filtering.specs.Filter.{Sensor, innovation}
use Rattle.filtering.specs.Information.{Information, informed, state}
use Rattle.steps.specs.Step.{Rows}

-- ---- what the arrays of Ω and of Ω x hold, for n states; and the arrays of what is left
abbrev pub information_rows : Size → Rows → List Float → Information
information_rows n w v = record { matrix = part n n w; vector = front n v }

abbrev pub arrays_of : Information → Rows × List Float
arrays_of o = (pad o.matrix, pad_row o.vector)

-- ---- an update by the inverted noise W: the addition is left, whatever is told
abbrev pub update_by : Sensor Matrix → Vector → Information → Matrix → Outcome Information Vector
update_by Y z o W =
    let o' = informed Y.n Y.m Y.h W z o in
    record { told = mapped (λ x. innovation Y.m Y.n Y.h x z) (state Y.n o'); left = this o' }
