-- How a call hands its answer over: an array of four, of which a part is used. Definitions only.
use Rattle.std.specs.Prelude.{List, Float}
use Rattle.answer.specs.Answer.{Answer, mapped}
use Rattle.algebra.specs.Matrix.{Vector, Matrix, at}
use Rattle.algebra.specs.Array.{pad, pad_row}

-- a matrix in its array of rows, +0 outside
abbrev pub as_matrix : Answer Matrix → Answer (List (List Float))
as_matrix a = mapped pad a

abbrev pub as_vector : Answer Vector → Answer (List Float)
as_vector a = mapped pad_row a

-- a vector of one number, as that number
abbrev pub as_one : Answer Vector → Answer Float
as_one a = mapped (λ y. at y 0) a
