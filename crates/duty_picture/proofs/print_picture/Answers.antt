-- The output has room for every picture: a sheet is drawn or its refusal's line stored, and what is written fits.
use Rattle.std.proofs.Common.{◌≡◌, ℕ, ◌≤◌, List, length, sym, subst, arith, replicate}
use lib.Seq.{length-take-le}
use mathlib.Core.Logic.{⊎_elim}
use Rattle.std.specs.Prelude.{Ok, IsOk}
use Rattle.std.proofs.lemmas.List.{length-replicate}
use Rattle.answer.specs.Answer.{Answer}
use Rattle.sheets.specs.Promise.{AnsweredSheet, RefusedSheet}
use Rattle.sheets.proofs.Printed.{reports}
use Rattle.picture.specs.Picture.{Pictured}
use Rattle.picture.proofs.Laws.{pictured_fits}
use Rattle.duty_picture.proofs.print_picture.Goals as goal

abbrev blank : List ℕ
blank = replicate 32768 0

room : 32768 ≤ length blank
room = omega (arith, length-replicate {A = ℕ} 32768 0)

module _ (sheet output : List ℕ) (r : Answer ℕ) (p : Pictured sheet blank output r) where
  told : IsOk r
  told =
      ⊎_elim (λ (a : AnsweredSheet sheet). rw (p.answered room a).told) (λ (f : RefusedSheet sheet). rw (p.refused room f.number f.line f.is_printed).0) (reports.lines sheet)

  fits : (n : ℕ) → r ≡ Ok n → length output ≡ 32768 → n ≤ length output
  fits n e long =
      omega (arith, pictured_fits sheet blank output n room (subst (Pictured sheet blank output) e p), length-replicate {A = ℕ} 32768 0, long)

pub unwrap-count-requires : goal.unwrap-count-requires
unwrap-count-requires g c = told _ _ _ c.picture.ensures

pub slice_bounds-output-end : goal.slice_bounds-output-end
slice_bounds-output-end g c = fits _ _ _ c.picture.ensures _ c.unwrap-count.ensures c.picture.auto.output

pub slice_bounds-write_all-end : goal.slice_bounds-write_all-end
slice_bounds-write_all-end g c = sym (length-take-le _ _ (fits _ _ _ c.picture.ensures _ c.unwrap-count.ensures c.picture.auto.output))
