-- A picture's call from the report's: 17 bytes are a refusal's line, any other number an answered sheet's. Assumes nothing.
use mathlib.Core.Path.{◌≡◌, refl, sym, ap, ◌∙◌, subst}
use mathlib.Core.Bool.{false}
use mathlib.Core.List.{List, ◌++◌}
use mathlib.Core.Logic.{⊎_elim}
use Prim.Native.Nat.{ℕ, ◌*◌, ◌≤◌}
use native.Mathlib.Omega.{arith}
use lib.Dec.{ltb}
use lib.ListN.{length, take, drop, length-append, take-append-drop}
use lib.Seq.{take_at}
use borrow.Author.Tests.{le-ltb}
use Rattle.std.specs.Prelude.{Ok}
use Rattle.answer.specs.Answer.{Answer}
use Rattle.sheets.specs.Report.{report}
use Rattle.sheets.specs.Promise.{AnsweredSheet, RefusedSheet, ReadingLines, no_more, one_more, joined}
use Rattle.sheets.specs.Sheet.{Sheet}
use Rattle.sheets.proofs.Printing.{length-refusal}
use Rattle.sheets.proofs.Printed.{reports}
use Rattle.sheet.specs.Call.{report_told, report_left}
use Rattle.picture.specs.Picture.{Stored, Drawn, Pictured}

-- the lines of readings are 25 bytes each, so they are never 17 together
length-joined : {sh : Sheet} {i : ℕ} {texts : List (List ℕ)} → ReadingLines sh i texts → length (joined texts) ≡ 25 * length texts
unfolding joined
length-joined no_more = refl
length-joined (one_more {text = t} {texts = ts} l ls) = omega (arith, length-append t (joined ts), l.long, length-joined ls)

never_17 : {s : List ℕ} → AnsweredSheet s → length (report s) ≡ 17 → ⊥
never_17 a e = omega (arith, ap length a.is_printed, length-joined a.lines)

-- of a report's call with room: the number of its bytes, and that they stand at the start
pub reported : (s z t : List ℕ) (n : ℕ) → length z ≡ 1600 → Ok n ≡ report_told (report s) z → t ≡ report_left (report s) z
    → (n ≡ length (report s)) × (take n t ≡ report s)
reported s z t n l p q =
    let f : ltb (length z) 1600 ≡ false = le-ltb (length z) 1600 (omega arith) in
    let g : report_told (report s) z ≡ Ok (length (report s)) = rw f in
    let h : report_left (report s) z ≡ report s ++ drop (length (report s)) z = rw f in
    let k : n ≡ length (report s) = cc (p ∙ g) in
    (k, rw (k, q, h) (take_at (report s) (drop (length (report s)) z) (length (report s)) refl))

module _ (s d e : List ℕ) (room : 32768 ≤ length d) where
  -- the report is drawn as a picture where it has not 17 bytes
  pub drawn_pictured : (r : ℕ) → (length (report s) ≡ 17 → ⊥) → Drawn d e r → Pictured s d e (Ok r)
  drawn_pictured r other p =
      record {
        small = λ h. absurd (omega arith);
        refused = λ h number line t. absurd (other (ap length t ∙ length-refusal number line));
        answered = λ h a. record { count = r; told = refl; drawn = p };
      }

  -- a report of 17 bytes is stored as it is
  pub refused_pictured : (r : ℕ) → length (report s) ≡ 17 → Stored d e 0 (report s) r → Pictured s d e (Ok r)
  refused_pictured r long p =
      let n : r ≡ 17 = omega (arith, p.next, long) in
      let u : take 17 e ≡ report s = subst (λ (k : ℕ). take k e ≡ report s) n p.upto in
      let v : drop 17 e ≡ drop 17 d = subst (λ (k : ℕ). drop k e ≡ drop k d) n p.rest in
      record {
        small = λ h. absurd (omega arith);
        refused = λ h number line t. (ap {B = Answer ℕ} Ok n, sym (take-append-drop 17 e) ∙ rw (u, v, t));
        answered = λ h a. absurd (never_17 a long);
      }

-- what is written fits the output
pub pictured_fits : (s d e : List ℕ) (n : ℕ) → 32768 ≤ length d → Pictured s d e (Ok n) → n ≤ length d
pictured_fits s d e n room p =
    ⊎_elim
    (λ (a : AnsweredSheet s).
    let q = p.answered room a in
    let z : n ≡ q.count = cc q.told in
    omega (arith, q.drawn.fits))
    (λ (f : RefusedSheet s).
    let q = p.refused room f.number f.line f.is_printed in
    let z : n ≡ 17 = cc q.0 in
    omega arith)
    (reports.lines s)
