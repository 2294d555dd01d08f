-- A matrix as the record that holds its rows flat. Definitions only.
use Rattle.std.specs.Prelude.{ℕ}
use Rattle.algebra.specs.Matrix.{Matrix}
use Rattle.algebra.specs.Array.{pad, flat_of_rows}
use Rattle.elementwise.specs.declared.Matrix.{Matrix as FlatMatrix}

-- its rows of four, +0 outside its sizes
abbrev pub record_of : ℕ → ℕ → Matrix → FlatMatrix
record_of r c A = record { rows = r; cols = c; cells = flat_of_rows (pad A) }
