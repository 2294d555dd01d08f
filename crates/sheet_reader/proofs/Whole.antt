-- The parts of a sheet, one after another. Assumes nothing.
use mathlib.Core.Path.{◌≡◌, sym, ◌∙◌}
use mathlib.Core.List.{List, [], map}
use Prim.Native.Nat.{ℕ, ◌+◌}
use lib.IntN.{ℤ}
use lib.ListN.{length, length-map}
use borrow.Author.Tests.{eq-eqb, ne_eqb}
use Rattle.std.specs.Prelude.{Option, Ok, Err}
use Rattle.answer.specs.declared.Refusal.TheVariants.{BadForm}
use Rattle.sheets.specs.Verdict.{Verdict, refused, mapped}
use Rattle.sheets.specs.Sheet.{end_test, reading_test, only, stages_of, readings_of, readings_line, readings_at, sheet_length, end_of, reading_of, read_head, read_ends, read_readings, read_end, read_rows, sheet_of, read_sheet}
use Rattle.sheets.specs.declared.SheetRefusal.{SheetRefusal}
use Rattle.sheets.proofs.Verdicts.{mapped-given, given-long}
use Rattle.sheets.proofs.Lines.{lines_long}
use Rattle.sheet_reader.specs.Held.{head_held, ends_held, readings_held, sheet_held}
use Rattle.sheet_reader.specs.declared.head.Head.{Head}
use Rattle.sheet_reader.specs.declared.SheetRead.{SheetRead}

pub mapped_err : {A B : Type 0} (f : A → B) (r : Verdict A) (w : SheetRefusal) → Err w ≡ mapped f r → r ≡ Err w
mapped_err f (Err v) w e = cc
mapped_err f (Ok a) w e = cc

module _ (s : List ℕ) where
  abbrev whole : Verdict SheetRead
  whole = mapped sheet_held (read_sheet s)

  -- all lines are read
  module _ (hs es rs : List (List ℤ)) (a : read_head s ≡ Ok hs) (c : read_ends (stages_of (only hs)) s ≡ Ok es) (f : read_readings (stages_of (only hs)) (readings_of (only hs)) s ≡ Ok rs) where
    all_read : read_sheet s ≡ mapped sheet_of (read_end (only hs) es rs s)
    unfolding read_sheet read_rows
    all_read = rw (a, c, f)

    all_more : (h : Head) → head_held hs ≡ h → (length s ≡ sheet_length h.stages h.readings → ⊥) → refused BadForm (readings_line h.stages + h.readings) ≡ whole
    all_more h b n = rw (← b, all_read, ne_eqb (length s) (sheet_length (stages_of (only hs)) (readings_of (only hs))) (λ e. n (rw (← b) e)))

    all_fits : (h : Head) (ends : List ℕ) (readings : List (Option ℤ)) → head_held hs ≡ h → ends_held es ≡ ends → readings_held rs ≡ readings → length s ≡ sheet_length h.stages h.readings
        → Ok (record { step = h.step; process = h.process; measurement = h.measurement; stages = h.stages; count = h.readings; ends = ends; readings = readings }) ≡ whole
    all_fits h ends readings b d g l =
        let stages = stages_of (only hs) in
        let count = readings_of (only hs) in
        let m : length (map end_of es) ≡ stages = length-map es end_of ∙ given-long stages (read_ends stages s) es (lines_long 1 end_test stages [] 2 41 s) c in
        let n : length (map reading_of rs) ≡ count =
        length-map rs reading_of ∙ given-long count (read_readings stages count s) rs (lines_long 2 reading_test count [] (readings_line stages) (readings_at stages) s) f in
        rw (← b, ← d, ← g, all_read, eq-eqb (length s) (sheet_length stages count) (rw (← b) at l), m, n)

  pub head_refused : (w : SheetRefusal) → Err w ≡ mapped head_held (read_head s) → Err w ≡ whole
  unfolding read_sheet read_rows
  head_refused w e = rw (mapped_err head_held (read_head s) w e)

  module _ (h : Head) (p : Ok h ≡ mapped head_held (read_head s)) where
    pub ends_refused : (w : SheetRefusal) → Err w ≡ mapped ends_held (read_ends h.stages s) → Err w ≡ whole
    unfolding read_sheet read_rows
    ends_refused w e =
        let (hs, a, b) = mapped-given head_held (read_head s) h (sym p) in
        let c : read_ends (stages_of (only hs)) s ≡ Err w = mapped_err ends_held _ w (rw (← b) at e) in
        rw (a, c)

    module _ (ends : List ℕ) (q : Ok ends ≡ mapped ends_held (read_ends h.stages s)) where
      pub readings_refused : (w : SheetRefusal) → Err w ≡ mapped readings_held (read_readings h.stages h.readings s) → Err w ≡ whole
      unfolding read_sheet read_rows
      readings_refused w e =
          let (hs, a, b) = mapped-given head_held (read_head s) h (sym p) in
          let (es, c, d) = mapped-given ends_held (read_ends (stages_of (only hs)) s) ends (sym (rw (← b) at q)) in
          let f : read_readings (stages_of (only hs)) (readings_of (only hs)) s ≡ Err w = mapped_err readings_held _ w (rw (← b) at e) in
          rw (a, c, f)

      module _ (readings : List (Option ℤ)) (u : Ok readings ≡ mapped readings_held (read_readings h.stages h.readings s)) where
        pub more_refused : (length s ≡ sheet_length h.stages h.readings → ⊥) → refused BadForm (readings_line h.stages + h.readings) ≡ whole
        unfolding read_sheet read_rows
        more_refused n =
            let (hs, a, b) = mapped-given head_held (read_head s) h (sym p) in
            let (es, c, d) = mapped-given ends_held (read_ends (stages_of (only hs)) s) ends (sym (rw (← b) at q)) in
            let (rs, f, g) = mapped-given readings_held (read_readings (stages_of (only hs)) (readings_of (only hs)) s) readings (sym (rw (← b) at u)) in
            all_more hs es rs a c f h b n

        pub sheet_read : length s ≡ sheet_length h.stages h.readings
            → Ok (record { step = h.step; process = h.process; measurement = h.measurement; stages = h.stages; count = h.readings; ends = ends; readings = readings }) ≡ whole
        unfolding read_sheet read_rows
        sheet_read l =
            let (hs, a, b) = mapped-given head_held (read_head s) h (sym p) in
            let (es, c, d) = mapped-given ends_held (read_ends (stages_of (only hs)) s) ends (sym (rw (← b) at q)) in
            let (rs, f, g) = mapped-given readings_held (read_readings (stages_of (only hs)) (readings_of (only hs)) s) readings (sym (rw (← b) at u)) in
            all_fits hs es rs a c f h ends readings b d g l
