-- The call that writes a report: what it tells, and what it leaves of the output. Definitions only.
use Rattle.std.specs.Prelude.{Bool, cond, List, ◌++◌, ℕ, ltb, length, drop, Ok, Err}
use Rattle.answer.specs.declared.Refusal.TheVariants.{WrongSize}
use Rattle.answer.specs.Answer.{Answer}

-- an output d of fewer bytes than 64 lines of 25 is too small
abbrev pub is_small : List ℕ → Bool
is_small d = ltb (length d) 1600

abbrev pub report_told : List ℕ → List ℕ → Answer ℕ
report_told text d = cond (is_small d) (Err WrongSize) (Ok (length text))

-- the text at its start, and the rest as it was
abbrev pub report_left : List ℕ → List ℕ → List ℕ
report_left text d = cond (is_small d) d (text ++ drop (length text) d)

-- the same as an answer: how many bytes are the report, and the output then; or refused with 1
abbrev pub report_in : List ℕ → List ℕ → Answer (ℕ × List ℕ)
report_in text d = cond (is_small d) (Err WrongSize) (Ok (length text, text ++ drop (length text) d))
