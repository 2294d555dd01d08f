-- What the report's call writes says whether the sheet is refused.
use Rattle.std.proofs.Common.{◌≡◌, sym, ◌∙◌, subst, ℕ, List, take, replicate}
use Rattle.std.proofs.lemmas.List.{length-replicate}
use Rattle.sheets.specs.Report.{report}
use Rattle.picture.specs.Picture.{Stored}
use Rattle.picture.proofs.Laws.{reported, drawn_pictured, refused_pictured}
use Rattle.picture.proofs.picture.Goals as goal

pub returns-then-n-eq17 : goal.returns-then-n-eq17
returns-then-n-eq17 c =
    let a = c.args in
    let t = reported a.sheet.now (replicate 1600 0) c.report.new.output c.in_ok-n.n (length-replicate {A = ℕ} 1600 0) c.in_ok-n.ensures.0 c.in_ok-n.ensures.1 in
    let e : c.in_ok-n.n ≡ 17 = c.if-n-eq17.true in
    let u : take 17 c.report.new.output ≡ report a.sheet.now = subst (λ (n : ℕ). take n c.report.new.output ≡ report c.args.sheet.now) e t.1 in
    refused_pictured a.sheet.now a.output.now c.store.new.output c.if-output-lt-ROOM.false c.store.result (sym t.0 ∙ e)
    (subst (λ (l : List ℕ). Stored c.args.output.now c.store.new.output 0 l c.store.result) u c.store.ensures)

pub returns-else-n-eq17 : goal.returns-else-n-eq17
returns-else-n-eq17 c =
    let a = c.args in
    let t = reported a.sheet.now (replicate 1600 0) c.report.new.output c.in_ok-n.n (length-replicate {A = ℕ} 1600 0) c.in_ok-n.ensures.0 c.in_ok-n.ensures.1 in
    drawn_pictured a.sheet.now a.output.now c.put_picture.new.output c.if-output-lt-ROOM.false c.put_picture.result (λ x. c.if-n-eq17.false (t.0 ∙ x)) c.put_picture.ensures
