-- What is printed: lines of fields as wide as those read, without a heading. Definitions only.
use Rattle.std.specs.Prelude.{List, [], ◌∷◌, ◌++◌, ℕ, ◌+◌, ℤ, pos, Float, Option, None, Some, Ok, Err}
use Rattle.answer.specs.Told.{number}
use Rattle.sheets.specs.Field.{write_field}
use Rattle.answer.specs.declared.Refusal.TheVariants.{NoWholeMetres}
use Rattle.sheets.specs.Verdict.{Verdict, refused, prepend}
use Rattle.sheets.specs.Metres.{metres_of}
use Rattle.sheets.specs.Stage.{stage_of}

unfoldable pub line_text : List ℤ → List ℕ
line_text [] = 10 ∷ []
line_text (z ∷ zs) = write_field z ++ line_text zs

-- number and line of a refusal
unfoldable pub refusal_text : ℕ → ℕ → List ℕ
refusal_text n l = line_text (pos n ∷ pos l ∷ [])

-- a reading: its number from 1, its whole metres, its stage
unfoldable pub reading_text : ℕ → List ℕ → ℤ → List ℕ
reading_text i ends z = line_text (pos i ∷ z ∷ pos (stage_of ends z) ∷ [])

-- a line for each reading, i being the number of the first
unfoldable pub readings_text : ℕ → List ℕ → List ℤ → List ℕ
readings_text i ends [] = []
readings_text i ends (z ∷ zs) = reading_text i ends z ++ readings_text (i + 1) ends zs

abbrev pub or_refused : ℕ → Option ℤ → Verdict (List ℤ) → Verdict (List ℤ)
or_refused l None r = refused NoWholeMetres l
or_refused l (Some z) r = prepend z r

-- the whole metres of positions, or 9 at the first that has none; l is the line of the first
unfoldable pub all_metres : ℕ → List Float → Verdict (List ℤ)
all_metres l [] = Ok []
all_metres l (x ∷ xs) = or_refused l (metres_of x) (all_metres (l + 1) xs)

-- the text that is given, or the refusal's line alone
abbrev pub printed : Verdict (List ℕ) → List ℕ
printed (Err e) = refusal_text (number e.refusal) e.line
printed (Ok text) = text
