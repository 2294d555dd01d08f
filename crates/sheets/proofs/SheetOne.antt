-- What reads is what is written: a line, lines one after another and a sheet have one text each. Assumes nothing.
use mathlib.Core.Path.{◌≡◌, refl, sym, ap, ◌∙◌}
use mathlib.Core.Bool.{Bool, true, false, cond}
use mathlib.Core.List.{List, [], ◌∷◌, ◌++◌}
use Rattle.std.specs.Prelude.{Option, None, Some, is_some, Ok}
use Prim.Native.Nat.{ℕ, zero, suc, ◌+◌, ◌*◌, ◌≤◌, ◌<◌}
use native.Mathlib.Nat.{mul-zero, mul-suc, add_comm}
use native.Mathlib.Omega.{arith}
use lib.Dec.{ltb, eqb}
use lib.IntN.{ℤ}
use lib.ListN.{length, take, drop, get_or, length-take, length-drop, take-append-drop}
use lib.Seq.{take-add, drop-drop, drop-cons, take_all}
use borrow.Author.Tests.{ltb-true, eqb-true}
use Rattle.sheets.specs.Field.{write_field}
use Rattle.answer.specs.declared.Refusal.TheVariants.{BadForm, OutOfRange}
use Rattle.sheets.specs.Verdict.{refused, prepend}
use Rattle.sheets.specs.Line.{field_at, or_zero, fields_read, form, values, read_lines}
use Rattle.sheets.specs.Sheet.{Rows, head_test, end_test, reading_test, stages_of, readings_of, only, sheet_length, read_head, read_ends, read_readings, read_rows}
use Rattle.sheets.specs.Output.{line_text}
use Rattle.sheets.specs.Texts.{Texts, lines_text, sheet_text}
use Rattle.sheets.proofs.FieldOne.{field-one}
use Rattle.sheets.proofs.Verdicts.{and_l, and_r, then-given, cond-given, prepend-given, given-long}
use Rattle.sheets.proofs.Lines.{lines_long}
use Rattle.sheets.proofs.FieldBack.{field_back}
use Rattle.sheets.proofs.SheetBack.{bare, line-bare, sheet-back}

field_at_one : (s : List ℕ) (at : ℕ) → at + 8 ≤ length s → is_some (field_at s at) ≡ true → take 8 (drop at s) ≡ write_field (or_zero (field_at s at))
field_at_one s at h e = go (field_at s at) refl e
  where
    l : length (take 8 (drop at s)) ≡ 8
    l = rw (length-take 8 (drop at s), length-drop at s) (omega arith)

    go : (o : Option ℤ) → field_at s at ≡ o → is_some o ≡ true → take 8 (drop at s) ≡ write_field (or_zero o)
    go None p q = let z : ◌≡◌ {A = ℕ} 0 1 = cc in absurd (omega arith)
    go (Some z) p q = (field-one (take 8 (drop at s)) z l p).0

fields-one : (k : ℕ) (s : List ℕ) (at : ℕ) → at + 8 * k ≤ length s → fields_read k s at ≡ true → take (8 * k) (drop at s) ≡ bare (values k s at)
unfolding fields_read values bare
fields-one zero s at h e = refl
fields-one (suc k) s at h e =
    let n : 8 * suc k ≡ 8 + 8 * k = omega arith in
    let a : take (8 + 8 * k) (drop at s) ≡ take 8 (drop at s) ++ take (8 * k) (drop 8 (drop at s)) = take-add 8 (8 * k) (drop at s) in
    let f : take 8 (drop at s) ≡ write_field (or_zero (field_at s at)) = field_at_one s at (omega arith) (and_l (is_some (field_at s at)) (fields_read k s (at + 8)) e) in
    let r : take (8 * k) (drop (at + 8) s) ≡ bare (values k s (at + 8)) = fields-one k s (at + 8) (omega arith) (and_r (is_some (field_at s at)) (fields_read k s (at + 8)) e) in
    rw n (a ∙ rw (drop-drop 8 at s) (ap (λ (x : List ℕ). x ++ take (8 * k) (drop (at + 8) s)) f ∙ ap (λ (x : List ℕ). write_field (or_zero (field_at s at)) ++ x) r))

line-one : (k : ℕ) (s : List ℕ) (at : ℕ) → form k s at ≡ true → take (8 * k + 1) (drop at s) ≡ line_text (values k s at)
unfolding form
line-one k s at e =
    let h : at + 8 * k < length s = ltb-true _ _ (and_l (ltb (at + 8 * k) (length s)) _ e) in
    let e2 = and_r (ltb (at + 8 * k) (length s)) _ e in
    let b : get_or s (at + 8 * k) 0 ≡ 10 = eqb-true _ _ (and_l (eqb (get_or s (at + 8 * k) 0) 10) (fields_read k s at) e2) in
    let f = fields-one k s at (omega arith) (and_r (eqb (get_or s (at + 8 * k) 0) 10) (fields_read k s at) e2) in
    let t : take 1 (drop (at + 8 * k) s) ≡ 10 ∷ [] = rw (drop-cons s (at + 8 * k) 0 h, b) in
    take-add (8 * k) 1 (drop at s) ∙ rw (drop-drop (8 * k) at s, t, f) (sym (line-bare (values k s at)))

lines-one : (k : ℕ) (ok : List ℤ → List ℤ → Bool) (n : ℕ) (before : List ℤ) (l at : ℕ) (s : List ℕ) (rows : List (List ℤ)) → read_lines k ok n before l at s ≡ Ok rows
    → take ((8 * k + 1) * n) (drop at s) ≡ lines_text rows
unfolding read_lines lines_text
lines-one k ok zero before l at s rows e =
    let z : [] ≡ rows = cc in
    rw (mul-zero (8 * k + 1), ← z)
lines-one k ok (suc n) before l at s rows e =
    go (form k s at) (ok before (values k s at)) refl e (lines-one k ok n (values k s at) (l + 1) (at + (8 * k + 1)) s)
  where
    go : (x y : Bool) → form k s at ≡ x
        → cond x (cond y (prepend (values k s at) (read_lines k ok n (values k s at) (l + 1) (at + (8 * k + 1)) s)) (refused OutOfRange l)) (refused BadForm l) ≡ Ok rows
        → ((more : List (List ℤ)) → read_lines k ok n (values k s at) (l + 1) (at + (8 * k + 1)) s ≡ Ok more → take ((8 * k + 1) * n) (drop (at + (8 * k + 1)) s) ≡ lines_text more)
        → take ((8 * k + 1) * suc n) (drop at s) ≡ lines_text rows
    go true true p q ih =
        let (more, u, v) = prepend-given (values k s at) _ rows q in
        let m : (8 * k + 1) * suc n ≡ (8 * k + 1) + (8 * k + 1) * n = mul-suc (8 * k + 1) n ∙ add_comm ((8 * k + 1) * n) (8 * k + 1) in
        rw (m, ← v) (take-add (8 * k + 1) ((8 * k + 1) * n) (drop at s) ∙ rw (drop-drop (8 * k + 1) at s, line-one k s at p, ih more u))
    go true false p q ih = let z : ◌≡◌ {A = ℕ} 0 1 = cc in absurd (omega arith)
    go false y p q ih = let z : ◌≡◌ {A = ℕ} 0 1 = cc in absurd (omega arith)

one-row : (hs : List (List ℤ)) → length hs ≡ 1 → hs ≡ only hs ∷ []
one-row [] e = absurd (omega arith)
one-row (h ∷ []) e = refl
one-row (h ∷ g ∷ hs) e = absurd (omega arith)

three : (s : List ℕ) (a b c : ℕ) → length s ≡ a + b + c → s ≡ take a s ++ (take b (drop a s) ++ take c (drop (a + b) s))
three s a b c l =
    let x : take c (drop (a + b) s) ≡ drop (a + b) s = take_all c (drop (a + b) s) (rw (length-drop (a + b) s) (omega arith)) in
    let y : take b (drop a s) ++ drop (a + b) s ≡ drop a s = rw (← drop-drop b a s) (take-append-drop b (drop a s)) in
    rw (x, y) (sym (take-append-drop a s))

-- a sheet that reads is the one that is written for what was read
pub sheet-one : (s : List ℕ) (r : Rows) → read_rows s ≡ Ok r → s ≡ sheet_text r
unfolding read_rows sheet_text
sheet-one s r e =
    let (hs, p, q) = then-given (read_head s) _ r e in
    let h = only hs in
    let st = stages_of h in
    let co = readings_of h in
    let (es, p2, q2) = then-given (read_ends st s) _ r q in
    let (rs, p3, q3) = then-given (read_readings st co s) _ r q2 in
    let g = cond-given (eqb (length s) (sheet_length st co)) _ r _ q3 in
    let l : length s ≡ 41 + 9 * st + 17 * co = eqb-true _ _ g.0 in
    let o : hs ≡ h ∷ [] = one-row hs (given-long 1 (read_head s) hs (lines_long 5 head_test 1 [] 1 0 s) p) in
    let a : take 41 s ≡ lines_text (h ∷ []) = lines-one 5 head_test 1 [] 1 0 s hs p ∙ ap lines_text o in
    let b : take (9 * st) (drop 41 s) ≡ lines_text es = lines-one 1 end_test st [] 2 41 s es p2 in
    let c : take (17 * co) (drop (41 + 9 * st) s) ≡ lines_text rs = lines-one 2 reading_test co [] (2 + st) (41 + 9 * st) s rs p3 in
    let t : s ≡ lines_text (h ∷ []) ++ (lines_text es ++ lines_text rs) =
    three s 41 (9 * st) (17 * co) l ∙ ap (λ (x : List ℕ). x ++ (take (9 * st) (drop 41 s) ++ take (17 * co) (drop (41 + 9 * st) s))) a
    ∙ ap (λ (x : List ℕ). lines_text (h ∷ []) ++ (x ++ take (17 * co) (drop (41 + 9 * st) s))) b ∙ ap (λ (x : List ℕ). lines_text (h ∷ []) ++ (lines_text es ++ x)) c in
    t ∙ ap (λ (x : Rows). lines_text (x.head ∷ []) ++ (lines_text x.ends ++ lines_text x.readings)) g.1

pub texts : Texts
texts = record { field_back = field_back; field-one = field-one; sheet-back = sheet-back; sheet-one = sheet-one }
