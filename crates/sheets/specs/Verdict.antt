-- What is made of a sheet, or why not: the refusal and the line of the sheet, from 1. Definitions only.
use Rattle.std.specs.Prelude.{List, ◌∷◌, ℕ, Result, Ok, Err}
use Rattle.answer.specs.declared.Refusal.{Refusal}
use Rattle.sheets.specs.declared.SheetRefusal.{SheetRefusal}

abbrev pub Verdict : Type 0 → Type 0
Verdict A = Result A SheetRefusal

abbrev pub refused : {A : Type 0} → Refusal → ℕ → Verdict A
refused r l = Err (record { refusal = r; line = l })

-- go on with what is given; a refusal stands
abbrev pub then : {A B : Type 0} → Verdict A → (A → Verdict B) → Verdict B
then (Err e) f = Err e
then (Ok a) f = f a

abbrev pub mapped : {A B : Type 0} → (A → B) → Verdict A → Verdict B
mapped f (Err e) = Err e
mapped f (Ok a) = Ok (f a)

abbrev pub prepend : {A : Type 0} → A → Verdict (List A) → Verdict (List A)
prepend a (Err e) = Err e
prepend a (Ok rows) = Ok (a ∷ rows)
