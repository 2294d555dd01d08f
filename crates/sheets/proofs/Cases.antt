-- Every case, computed from the definitions. Assumes nothing.
use mathlib.Core.Path.{refl}
use Rattle.sheets.specs.Cases.{Fields, Places, Sheets, Cases}
use Rattle.sheets.proofs.Computing.{computing}

fields : Fields
unfolding computing
fields =
    record {
      plain = refl;
      below-zero = refl;
      zero = refl;
      widest = refl;
      minus-zero = refl;
      two-zeros = refl;
      leading_zero = refl;
      plus = refl;
      lone_minus = refl;
      minus-apart = refl;
      minus_and_zero = refl;
      blank = refl;
      space_after = refl;
      tab = refl;
      carriage_return = refl;
      nul = refl;
      written = refl;
      furthest = refl;
    }

places : Places
unfolding computing
places =
    record {
      down = refl;
      down-below-zero = refl;
      minus-zero = refl;
      last = refl;
      last-below-zero = refl;
      past = refl;
      past-below-zero = refl;
      no_number = refl;
      infinite = refl;
      at_end = refl;
      past_end = refl;
      past-last = refl;
      before-start = refl;
    }

sheets : Sheets
unfolding computing
sheets =
    record {
      whole = refl;
      empty = refl;
      field-form = refl;
      four-fields = refl;
      minus-step = refl;
      widest-step = refl;
      form-first = refl;
      no_stage = refl;
      no_end = refl;
      one_end = refl;
      equal-end = refl;
      zero-end = refl;
      kind = refl;
      kind_0_metres = refl;
      too_far = refl;
      missing = refl;
      cut = refl;
      more = refl;
      nine = refl;
      byte_more = refl;
    }

pub cases : Cases
cases = record { fields = fields; places = places; sheets = sheets }
