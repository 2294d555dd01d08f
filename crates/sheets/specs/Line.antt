-- A line of fields, and lines read one after another. A line of k fields is 8 k bytes and one byte 0A. Definitions only.
use Rattle.std.specs.Prelude.{Bool, true, false, ◌&&◌, cond, List, [], ◌∷◌, ℕ, zero, suc, ◌+◌, ◌*◌, leb, ltb, eqb, ℤ, pos, negsuc, length, take, drop, get_or, Option, None, Some, is_some, Ok}
use Rattle.sheets.specs.Field.{read_field}
use Rattle.answer.specs.declared.Refusal.TheVariants.{BadForm, OutOfRange}
use Rattle.sheets.specs.Verdict.{Verdict, refused, prepend}

-- ---- the line of k fields that begins at byte `at` of s

abbrev pub field_at : List ℕ → ℕ → Option ℤ
field_at s at = read_field (take 8 (drop at s))

abbrev pub or_zero : Option ℤ → ℤ
or_zero None = pos 0
or_zero (Some z) = z

unfoldable pub fields_read : ℕ → List ℕ → ℕ → Bool
fields_read zero s at = true
fields_read (suc k) s at = is_some (field_at s at) && fields_read k s (at + 8)

-- it has its form: all its bytes are there, one byte 0A ends it, and each field reads
unfoldable pub form : ℕ → List ℕ → ℕ → Bool
form k s at = ltb (at + 8 * k) (length s) && (eqb (get_or s (at + 8 * k) 0) 10 && fields_read k s at)

-- its numbers
unfoldable pub values : ℕ → List ℕ → ℕ → List ℤ
values zero s at = []
values (suc k) s at = or_zero (field_at s at) ∷ values k s (at + 8)

-- ---- ranges

abbrev pub in_range : ℕ → ℕ → ℤ → Bool
in_range lo hi (pos m) = leb lo m && leb m hi
in_range lo hi (negsuc n) = false

abbrev pub nth : List ℤ → ℕ → ℤ
nth zs i = get_or zs i (pos 0)

-- ---- lines read one after another

-- n lines of k fields from line l and byte `at` on, one after another: 7 where one has not its form; else 8 where its numbers fail the test,
-- which is handed the line before as well
unfoldable pub read_lines : ℕ → (List ℤ → List ℤ → Bool) → ℕ → List ℤ → ℕ → ℕ → List ℕ → Verdict (List (List ℤ))
read_lines k ok zero before l at s = Ok []
read_lines k ok (suc n) before l at s =
    cond (form k s at)
    (cond (ok before (values k s at)) (prepend (values k s at) (read_lines k ok n (values k s at) (l + 1) (at + (8 * k + 1)) s)) (refused OutOfRange l))
    (refused BadForm l)
