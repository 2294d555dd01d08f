-- What a picture's call tells and leaves: an output d that is too small, the sheet's refusal line, or one svg element. Definitions only.
use Rattle.std.specs.Prelude.{◌≡◌, List, [], ◌∷◌, ◌++◌, ℕ, ◌+◌, ◌≤◌, ◌<◌, length, take, drop, Ok, Err}
use Rattle.answer.specs.declared.Refusal.TheVariants.{WrongSize}
use Rattle.answer.specs.Answer.{Answer}
use Rattle.sheets.specs.Text.{bytes}
use Rattle.sheets.specs.Output.{refusal_text}
use Rattle.sheets.specs.Report.{report}
use Rattle.sheets.specs.Promise.{AnsweredSheet}

-- a text stored in a buffer d at `at`: what the buffer e holds then, up to r and after it
pub record Stored (d e : List ℕ) (at : ℕ) (text : List ℕ) (r : ℕ) : Type 0 where
  pub next : r ≡ at + length text
  pub upto : take r e ≡ take at d ++ text
  pub rest : drop r e ≡ drop r d
  pub same : length e ≡ length d

abbrev pub opening : List ℕ
opening = bytes "<svg"

abbrev pub closing : List ℕ
closing = bytes "</svg>" ++ (10 ∷ [])

-- n bytes at the start of the output, the rest of which stays: an svg element, whatever stands in it, and a line end
pub record Drawn (d e : List ℕ) (n : ℕ) : Type 0 where
  pub inside : List ℕ
  pub element : Stored d e 0 (opening ++ (inside ++ closing)) n
  pub fits : n ≤ length d

pub record Picture (d e : List ℕ) (r : Answer ℕ) : Type 0 where
  pub count : ℕ
  pub told : r ≡ Ok count
  pub drawn : Drawn d e count

-- the sheet s, the output d before and e after the call, and the answer r
pub record Pictured (s d e : List ℕ) (r : Answer ℕ) : Type 0 where
  pub small : length d < 32768 → (r ≡ Err WrongSize) × (e ≡ d)
  pub refused : 32768 ≤ length d → (number line : ℕ) → report s ≡ refusal_text number line → (r ≡ Ok 17) × (e ≡ refusal_text number line ++ drop 17 d)
  pub answered : 32768 ≤ length d → AnsweredSheet s → Picture d e r
