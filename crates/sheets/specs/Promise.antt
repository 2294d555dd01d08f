-- Promises about a report: what is printed of any input, and which of its bytes decide. Statements only.
use Rattle.std.specs.Prelude.{◌≡◌, ◌⊎◌, List, [], ◌∷◌, ◌++◌, ℕ, suc, ◌≤◌, ℤ, pos, length, take, Ok}
use Rattle.sheets.specs.Sheet.{Sheet, read_sheet}
use Rattle.sheets.specs.Output.{line_text, refusal_text}
use Rattle.sheets.specs.Report.{report}

-- the line of reading i: 25 bytes, its number, whole metres, and a stage of the sheet's
pub record ReadingLine (sh : Sheet) (i : ℕ) (text : List ℕ) : Type 0 where
  pub metres : ℤ
  pub stage : ℕ
  pub is_line : text ≡ line_text (pos i ∷ metres ∷ pos stage ∷ [])
  pub from_first : 1 ≤ stage
  pub to_last : stage ≤ length sh.ends
  pub long : length text ≡ 25

-- lines of readings i, i + 1 and so on
pub data ReadingLines (sh : Sheet) : ℕ → List (List ℕ) → Type 0 where
  no_more : {i : ℕ} → ReadingLines sh i []
  one_more : {i : ℕ} {text : List ℕ} {texts : List (List ℕ)} → ReadingLine sh i text → ReadingLines sh (suc i) texts → ReadingLines sh i (text ∷ texts)

unfoldable pub joined : List (List ℕ) → List ℕ
joined [] = []
joined (t ∷ ts) = t ++ joined ts

-- a sheet that is answered: exactly a line for each reading, numbered from 1
pub record AnsweredSheet (s : List ℕ) : Type 0 where
  pub sheet : Sheet
  pub is_read : read_sheet s ≡ Ok sheet
  pub texts : List (List ℕ)
  pub is_printed : report s ≡ joined texts
  pub one_each : length texts ≡ length sheet.readings
  pub lines : ReadingLines sheet 1 texts

-- one that is refused: exactly one line, of 17 bytes
pub record RefusedSheet (s : List ℕ) : Type 0 where
  pub number : ℕ
  pub line : ℕ
  pub is_printed : report s ≡ refusal_text number line
  pub long : length (report s) ≡ 17

pub record Reports : Type 0 where
  pub lines : (s : List ℕ) → AnsweredSheet s ⊎ RefusedSheet s
  -- 64 lines of 25 bytes are enough for any report
  pub room : (s : List ℕ) → length (report s) ≤ 1600
  -- the longest sheet has 1,417 bytes, and one byte more decides
  pub front : (s : List ℕ) → report s ≡ report (take 1418 s)
