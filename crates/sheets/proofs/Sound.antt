-- No refusal of a sheet has the number 0: no refusal has. Assumes nothing.
use Prim.Native.Nat.{◌<◌}
use lib.Dec.{lit<}
use Rattle.std.specs.Prelude.{Ok, Err}
use Rattle.answer.specs.declared.Refusal.{Refusal}
use Rattle.answer.specs.declared.Refusal.TheVariants.{WrongSize, InsufficientData, SingularMatrix, NotPositiveDefinite, BufferFull, IndexOutOfRange, BadForm, OutOfRange, NoWholeMetres}
use Rattle.answer.specs.Told.{number}
use Rattle.sheets.specs.Verdict.{Verdict}

pub number_sound : (r : Refusal) → 0 < number r
number_sound WrongSize = lit< tt
number_sound InsufficientData = lit< tt
number_sound SingularMatrix = lit< tt
number_sound NotPositiveDefinite = lit< tt
number_sound BufferFull = lit< tt
number_sound IndexOutOfRange = lit< tt
number_sound BadForm = lit< tt
number_sound OutOfRange = lit< tt
number_sound NoWholeMetres = lit< tt

abbrev pub Sound : {A : Type 0} → Verdict A → Type 0
Sound (Err e) = 0 < number e.refusal
Sound (Ok a) = Unit {0}

-- of a sheet that is read, of its lines, of its metres
pub sound : {A : Type 0} (r : Verdict A) → Sound r
sound (Err e) = number_sound e.refusal
sound (Ok a) = tt
