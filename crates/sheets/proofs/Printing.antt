-- The laws of printed lines: how long they are, one more line, and the stages on them. Assumes nothing.
use mathlib.Core.Path.{◌≡◌, refl, sym, ap}
use mathlib.Core.List.{List, [], ◌∷◌, ◌++◌, append_assoc, append-nil}
use Rattle.std.specs.Prelude.{Option, None, Some}
use Prim.Native.Nat.{ℕ, suc, ◌+◌, ◌*◌, ◌≤◌}
use native.Mathlib.Nat.{add-zero}
use native.Mathlib.Numerals.{add-one}
use native.Mathlib.Omega.{arith}
use lib.IntN.{ℤ, pos}
use lib.Ieee.{Float}
use lib.ListN.{length, length-append}
use Rattle.sheets.specs.Field.{write_field}
use Rattle.sheets.specs.Verdict.{Verdict}
use Rattle.sheets.specs.Metres.{metres_of}
use Rattle.sheets.specs.Stage.{stage_of}
use Rattle.sheets.specs.Sheet.{Sheet}
use Rattle.sheets.specs.Output.{line_text, refusal_text, reading_text, readings_text, or_refused, all_metres}
use Rattle.sheets.specs.Promise.{ReadingLines, no_more, one_more, joined}
use Rattle.sheets.proofs.FieldBack.{length-field}
use Rattle.sheets.proofs.Verdicts.{Long, long-prepend}

pub line-three : (x y z : ℤ) → line_text (x ∷ y ∷ z ∷ []) ≡ ((write_field x ++ write_field y) ++ write_field z) ++ (10 ∷ [])
unfolding line_text
line-three x y z = simp append_assoc

pub line-two : (x y : ℤ) → line_text (x ∷ y ∷ []) ≡ (write_field x ++ write_field y) ++ (10 ∷ [])
unfolding line_text
line-two x y = simp append_assoc

pub length_three : (x y z : ℤ) → length (line_text (x ∷ y ∷ z ∷ [])) ≡ 25
length_three x y z = rw (line-three x y z) (simp (length-append, length-field))

pub length_reading : (i : ℕ) (es : List ℕ) (z : ℤ) → length (reading_text i es z) ≡ 25
unfolding reading_text
length_reading i es z = length_three (pos i) z (pos (stage_of es z))

pub length-refusal : (n l : ℕ) → length (refusal_text n l) ≡ 17
unfolding refusal_text
length-refusal n l = rw (line-two (pos n) (pos l)) (simp (length-append, length-field))

-- one more reading at the end
pub lines_snoc : (k : ℕ) (es : List ℕ) (xs : List ℤ) (z : ℤ) → readings_text k es (xs ++ (z ∷ [])) ≡ readings_text k es xs ++ reading_text (k + length xs) es z
unfolding readings_text
lines_snoc k es [] z = rw (add-zero k) (append-nil _)
lines_snoc k es (x ∷ xs) z =
    let e : k + 1 + length xs ≡ k + suc (length xs) = omega arith in
    rw (lines_snoc (k + 1) es xs z, e) (sym (append_assoc (reading_text k es x) _ _))

pub lines_none : (k : ℕ) (es : List ℕ) → readings_text k es [] ≡ []
unfolding readings_text
lines_none k es = refl

pub length-readings : (k : ℕ) (es : List ℕ) (zs : List ℤ) → length (readings_text k es zs) ≡ 25 * length zs
unfolding readings_text
length-readings k es [] = refl
length-readings k es (z ∷ zs) = rw (length-append (reading_text k es z) (readings_text (k + 1) es zs), length_reading k es z, length-readings (k + 1) es zs) (omega arith)

-- ---- whole metres of all positions

pub metres-long : (l : ℕ) (xs : List Float) → Long (length xs) (all_metres l xs)
unfolding all_metres Long
metres-long l [] = refl
metres-long l (x ∷ xs) = go (metres_of x) (all_metres (l + 1) xs) (metres-long (l + 1) xs)
  where
    go : (o : Option ℤ) (r : Verdict (List ℤ)) → Long (length xs) r → Long (suc (length xs)) (or_refused l o r)
    go None r h = tt
    go (Some z) r h = long-prepend z (length xs) r h

-- ---- lines with stages of the sheet's

stage-most : (es : List ℕ) (z : ℤ) → stage_of es z ≤ length es
unfolding stage_of
stage-most es z = omega arith

stage-least : (es : List ℕ) (z : ℤ) → 1 ≤ length es → 1 ≤ stage_of es z
unfolding stage_of
stage-least es z h = omega arith

unfoldable pub lines_of_readings : ℕ → List ℕ → List ℤ → List (List ℕ)
lines_of_readings i es [] = []
lines_of_readings i es (z ∷ zs) = reading_text i es z ∷ lines_of_readings (suc i) es zs

pub are_joined : (i : ℕ) (es : List ℕ) (zs : List ℤ) → readings_text i es zs ≡ joined (lines_of_readings i es zs)
unfolding readings_text joined lines_of_readings
are_joined i es [] = refl
are_joined i es (z ∷ zs) = rw (add-one i, are_joined (suc i) es zs)

pub length-lines : (i : ℕ) (es : List ℕ) (zs : List ℤ) → length (lines_of_readings i es zs) ≡ length zs
unfolding lines_of_readings
length-lines i es [] = refl
length-lines i es (z ∷ zs) = ap suc (length-lines (suc i) es zs)

pub are_lines : (sh : Sheet) (i : ℕ) (zs : List ℤ) → 1 ≤ length sh.ends → ReadingLines sh i (lines_of_readings i sh.ends zs)
unfolding lines_of_readings reading_text
are_lines sh i [] h = no_more
are_lines sh i (z ∷ zs) h =
    one_more
    (record {
      metres = z;
      stage = stage_of sh.ends z;
      is_line = refl;
      from_first = stage-least sh.ends z h;
      to_last = stage-most sh.ends z;
      long = length_three (pos i) z (pos (stage_of sh.ends z));
    })
    (are_lines sh (suc i) zs h)
