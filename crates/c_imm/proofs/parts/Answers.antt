-- `parts` meets its contract: the slices are as long as the parts where each goes as far as the next one.
use mathlib.Core.Path.{◌≡◌, sym, ap, ◌∙◌}
use mathlib.Core.Bool.{Bool}
use Rattle.std.proofs.Common.{rules}
use Rattle.std.specs.Prelude.{Err}
use Rattle.answer.specs.Answer.{where_sized}
use Rattle.answer.proofs.Answers.{passed, passed_is, stopped}
use Rattle.matrix.proofs.Results.{value_answered}
use Rattle.c_bank.specs.Bank.{places_of}
use Rattle.c_bank.proofs.Banks.{placed_of}
use Rattle.c_imm.proofs.Puts.{parts-tested}
use Rattle.c_imm.proofs.parts.Goals as goal

pub returns : goal.returns
returns c =
    let a = c.args in
    let g = placed_of c.of.ensures c.in_ok-places.was in
    value_answered (places_of a.n a.m a.k) (sym (parts-tested a.models a.transition a.c a.r g) ∙ passed _ _ (sym c.fits.ensures ∙ c.in_ok-fits.was))
    (passed_is _ _ (sym c.of.ensures ∙ c.in_ok-places.was))

pub returns-in_err-fits : goal.returns-in_err-fits
returns-in_err-fits c =
    let a = c.args in
    let e : c.from_residual-in_err-fits.result ≡ Err c.in_err-fits.field-0.0 = search rules in
    e ∙ stopped _ _ (places_of a.n a.m a.k) (sym c.fits.ensures ∙ c.in_err-fits.was)
    ∙ ap (λ (t : Bool). where_sized t (places_of a.n a.m a.k)) (parts-tested a.models a.transition a.c a.r (placed_of c.of.ensures c.in_ok-places.was))
