-- What is printed of any input: a line for each reading, or one refusal line. Assumes nothing.
use mathlib.Core.Path.{◌≡◌, refl, ap, ◌∙◌}
use mathlib.Core.Logic.{◌⊎◌, inl, inr, ⊎_elim}
use mathlib.Core.List.{List, map}
use Prim.Native.Nat.{ℕ, ◌+◌, ◌≤◌}
use native.Mathlib.Omega.{arith}
use lib.IntN.{ℤ}
use lib.Ieee.{Float}
use lib.ListN.{length, length-map}
use Rattle.tracking.specs.Track.{Smoothed, Tracked, rejected, tracked}
use Rattle.tracking.proofs.Laws.{tracks}
use Rattle.std.specs.Prelude.{Ok, Err}
use Rattle.answer.specs.Told.{number}
use Rattle.answer.specs.declared.Refusal.TheVariants.{SingularMatrix}
use Rattle.sheets.specs.declared.SheetRefusal.{SheetRefusal}
use Rattle.sheets.specs.Verdict.{Verdict, then, mapped}
use Rattle.sheets.specs.Sheet.{Sheet, read_sheet}
use Rattle.sheets.specs.Output.{refusal_text, readings_text, all_metres, printed}
use Rattle.sheets.specs.Report.{settings_of, measured_of, track_of, first_line, on_lines, lines_of, answer_of, report}
use Rattle.sheets.specs.Promise.{AnsweredSheet, RefusedSheet, Reports}
use Rattle.sheets.proofs.Verdicts.{given-long}
use Rattle.sheets.proofs.Counts.{sheet-counted}
use Rattle.sheets.proofs.Printing.{length-refusal, length-readings, metres-long, lines_of_readings, are_joined, length-lines, are_lines}
use Rattle.sheets.proofs.Front.{front}

-- as many positions as readings
pub tracked-long : (sh : Sheet) (l : List Smoothed) → track_of sh ≡ tracked l → length l ≡ length sh.readings
unfolding track_of
tracked-long sh l e = tracks.counted (settings_of sh) (map measured_of sh.readings) l e ∙ length-map sh.readings measured_of

-- what is told of a sheet: the whole metres of each reading, or the refusal
told : (sh : Sheet) → ((zs : List ℤ) × (answer_of sh ≡ Ok (readings_text 1 sh.ends zs)) × (length zs ≡ length sh.readings))
    ⊎ ((w : SheetRefusal) × (answer_of sh ≡ Err w))
unfolding answer_of lines_of
told sh = go (track_of sh) refl
  where
    metres : (xs : List Float) → length xs ≡ length sh.readings → (r : Verdict (List ℤ)) → all_metres (first_line sh) xs ≡ r
        → ((zs : List ℤ) × (mapped (readings_text 1 sh.ends) r ≡ Ok (readings_text 1 sh.ends zs)) × (length zs ≡ length sh.readings))
        ⊎ ((w : SheetRefusal) × (mapped (readings_text 1 sh.ends) r ≡ Err w))
    metres xs h (Err w) e = inr (w, refl)
    metres xs h (Ok zs) e = inl (zs, refl, given-long (length xs) _ zs (metres-long (first_line sh) xs) e ∙ h)

    go : (t : Tracked (List Smoothed)) → track_of sh ≡ t
        → ((zs : List ℤ) × (then (on_lines (first_line sh) t) (lines_of sh) ≡ Ok (readings_text 1 sh.ends zs)) × (length zs ≡ length sh.readings))
        ⊎ ((w : SheetRefusal) × (then (on_lines (first_line sh) t) (lines_of sh) ≡ Err w))
    go (rejected k) e = inr (record { refusal = SingularMatrix; line = first_line sh + k }, refl)
    go (tracked l) e =
        let xs = map (λ (p : Smoothed). p.smoothed) l in
        metres xs (length-map l (λ (p : Smoothed). p.smoothed) ∙ tracked-long sh l e) (all_metres (first_line sh) xs) refl

refusal : (s : List ℕ) (w : SheetRefusal) → then (read_sheet s) answer_of ≡ Err w → RefusedSheet s
unfolding report
refusal s w e =
    let t : report s ≡ refusal_text (number w.refusal) w.line = ap printed e in
    record { number = number w.refusal; line = w.line; is_printed = t; long = ap length t ∙ length-refusal (number w.refusal) w.line }

answer : (s : List ℕ) (sh : Sheet) (zs : List ℤ) → read_sheet s ≡ Ok sh → answer_of sh ≡ Ok (readings_text 1 sh.ends zs) → length zs ≡ length sh.readings → AnsweredSheet s
unfolding report
answer s sh zs r e l =
    let f = sheet-counted s sh r in
    let v : then (read_sheet s) answer_of ≡ Ok (readings_text 1 sh.ends zs) = rw r e in
    record {
      sheet = sh;
      is_read = r;
      texts = lines_of_readings 1 sh.ends zs;
      is_printed = ap printed v ∙ are_joined 1 sh.ends zs;
      one_each = length-lines 1 sh.ends zs ∙ l;
      lines = are_lines sh 1 zs f.a_stage;
    }

every : (s : List ℕ) → AnsweredSheet s ⊎ RefusedSheet s
every s = go (read_sheet s) refl
  where
    go : (r : Verdict Sheet) → read_sheet s ≡ r → AnsweredSheet s ⊎ RefusedSheet s
    go (Err w) e = inr (refusal s w (rw e))
    go (Ok sh) e =
        ⊎_elim (λ (zs, v, l). inl (answer s sh zs e v l)) (λ (w, v). inr (refusal s w (rw e v))) (told sh)

room : (s : List ℕ) → length (report s) ≤ 1600
unfolding report
room s = go (read_sheet s) refl
  where
    short : (w : SheetRefusal) → length (printed (Err w)) ≤ 1600
    short w = omega (arith, length-refusal (number w.refusal) w.line)

    go : (r : Verdict Sheet) → read_sheet s ≡ r → length (printed (then r answer_of)) ≤ 1600
    go (Err w) e = short w
    go (Ok sh) e =
        ⊎_elim
        (λ (zs, v, l). rw v (let f = sheet-counted s sh e in omega (arith, f.few-readings, l, length-readings 1 sh.ends zs)))
        (λ (w, v). rw v (short w))
        (told sh)

pub reports : Reports
reports = record { lines = every; room = room; front = front }
