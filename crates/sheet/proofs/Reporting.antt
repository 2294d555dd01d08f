-- What is printed of a sheet by what the code holds of it, step after step. Assumes nothing.
use mathlib.Core.Path.{◌≡◌, refl, sym, ap, ◌∙◌, subst}
use mathlib.Core.List.{List, map}
use Prim.Native.Nat.{ℕ, ◌+◌}
use lib.IntN.{ℤ}
use lib.ListN.{length, take}
use lib.Seq.{take_at}
use Rattle.std.specs.Prelude.{Option, Ok, Err}
use Rattle.arrayvec.specs.ArrayVec.{ArrayVec}
use Rattle.answer.specs.declared.Refusal.TheVariants.{SingularMatrix}
use Rattle.tracking.specs.Track.{rejected}
use Rattle.tracker.specs.Tracked.{told, track_in}
use Rattle.tracker.specs.declared.Positions.{Positions}
use Rattle.tracker.specs.declared.Rejected.{Rejected}
use Rattle.sheets.specs.declared.SheetRefusal.{SheetRefusal}
use Rattle.sheets.specs.Verdict.{Verdict, refused, mapped, then}
use Rattle.sheets.specs.Sheet.{Sheet, read_sheet}
use Rattle.sheets.specs.Output.{all_metres, readings_text}
use Rattle.sheets.specs.Report.{measured_of, track_of, lines_of, answer_of}
use Rattle.sheets.proofs.Verdicts.{mapped-given}
use Rattle.sheets.proofs.Counts.{sheet-counted}
use Rattle.sheets.proofs.Printed.{tracked-long}
use Rattle.sheet_reader.specs.Held.{sheet_held}
use Rattle.sheet_reader.specs.declared.SheetRead.{SheetRead}
use Rattle.sheet_reader.proofs.Whole.{mapped_err}
use Rattle.sheet.specs.Held.{settings_held, metres_held}
use Rattle.sheet.proofs.Tracking.{tracked_sheet, rejection, positions}

module _ (s : List ℕ) (sh : Sheet) (a : read_sheet s ≡ Ok sh) where
  is_told : track_in (settings_held (sheet_held sh)) (map measured_of sh.readings) ≡ told (track_of sh)
  is_told = let f = sheet-counted s sh a in tracked_sheet sh f.few-readings

  sheet_err : (k : Rejected) → Err k ≡ track_in (settings_held (sheet_held sh)) (map measured_of sh.readings) → refused SingularMatrix (2 + length sh.ends + k.reading) ≡ then (read_sheet s) answer_of
  unfolding answer_of
  sheet_err k e = let r : track_of sh ≡ rejected k.reading = rejection (track_of sh) k (e ∙ is_told) in rw (a, r)

  module _ (q : Positions) (e : Ok q ≡ track_in (settings_held (sheet_held sh)) (map measured_of sh.readings)) where
    abbrev metres : Verdict (List ℤ)
    metres = all_metres (2 + length sh.ends) (take (length sh.readings) q.smoothed)

    sheet_lines : then (read_sheet s) answer_of ≡ mapped (readings_text 1 sh.ends) metres
    unfolding answer_of lines_of
    sheet_lines =
        let (l, t, p) = positions (track_of sh) q (e ∙ is_told) in
        rw (a, t, p (length sh.readings) (tracked-long sh l t))

    sheet_bad : (w : SheetRefusal) → Err w ≡ mapped metres_held metres → Err w ≡ then (read_sheet s) answer_of
    sheet_bad w u = sym (sheet_lines ∙ rw (mapped_err metres_held metres w u))

    sheet_good : (v : ArrayVec ℤ) → Ok v ≡ mapped metres_held metres → Ok (readings_text 1 sh.ends v.items) ≡ then (read_sheet s) answer_of
    sheet_good v u =
        let (zs, g, h) = mapped-given metres_held metres v (sym u) in
        sym (sheet_lines ∙ rw g (ap {B = Verdict (List ℕ)} (λ (y : ArrayVec ℤ). Ok (readings_text 1 sh.ends y.items)) h))

-- ---- the same of what the code holds

abbrev ends_in : SheetRead → List ℕ
ends_in d = take d.stages d.ends

abbrev readings_in : SheetRead → List (Option ℤ)
readings_in d = take d.count d.readings

module _ (sh : Sheet) where
  ends_back : ends_in (sheet_held sh) ≡ sh.ends
  ends_back = take_at sh.ends _ (length sh.ends) refl

  readings_back : readings_in (sheet_held sh) ≡ sh.readings
  readings_back = take_at sh.readings _ (length sh.readings) refl

module _ (s : List ℕ) (d : SheetRead) (p : Ok d ≡ mapped sheet_held (read_sheet s)) where
  pub lines_err : (k : Rejected) → Err k ≡ track_in (settings_held d) (map measured_of (readings_in d)) → refused SingularMatrix (2 + length (ends_in d) + k.reading) ≡ then (read_sheet s) answer_of
  lines_err k =
      let (sh, a, b) = mapped-given sheet_held (read_sheet s) d (sym p) in
      subst
      (λ (y : SheetRead). Err k ≡ track_in (settings_held y) (map measured_of (readings_in y)) → refused SingularMatrix (2 + length (ends_in y) + k.reading) ≡ then (read_sheet s) answer_of) b
      (rw (ends_back sh, readings_back sh) (sheet_err s sh a k))

  module _ (q : Positions) where
    pub lines_bad : Ok q ≡ track_in (settings_held d) (map measured_of (readings_in d)) → (w : SheetRefusal)
        → Err w ≡ mapped metres_held (all_metres (2 + length (ends_in d)) (take (length (readings_in d)) q.smoothed)) → Err w ≡ then (read_sheet s) answer_of
    lines_bad =
        let (sh, a, b) = mapped-given sheet_held (read_sheet s) d (sym p) in
        subst
        (λ (y : SheetRead). Ok q ≡ track_in (settings_held y) (map measured_of (readings_in y)) → (w : SheetRefusal)
        → Err w ≡ mapped metres_held (all_metres (2 + length (ends_in y)) (take (length (readings_in y)) q.smoothed)) → Err w ≡ then (read_sheet s) answer_of) b
        (rw (ends_back sh, readings_back sh) (sheet_bad s sh a q))

    pub lines_good : Ok q ≡ track_in (settings_held d) (map measured_of (readings_in d)) → (v : ArrayVec ℤ)
        → Ok v ≡ mapped metres_held (all_metres (2 + length (ends_in d)) (take (length (readings_in d)) q.smoothed))
        → Ok (readings_text 1 (ends_in d) v.items) ≡ then (read_sheet s) answer_of
    lines_good =
        let (sh, a, b) = mapped-given sheet_held (read_sheet s) d (sym p) in
        subst
        (λ (y : SheetRead). Ok q ≡ track_in (settings_held y) (map measured_of (readings_in y)) → (v : ArrayVec ℤ)
        → Ok v ≡ mapped metres_held (all_metres (2 + length (ends_in y)) (take (length (readings_in y)) q.smoothed))
        → Ok (readings_text 1 (ends_in y) v.items) ≡ then (read_sheet s) answer_of) b
        (rw (ends_back sh, readings_back sh) (sheet_good s sh a q))
