-- `scalar_constants` meets its contract.
use mathlib.Core.Path.{◌≡◌, refl, sym, ap, ◌∙◌}
use mathlib.Core.List.{List, [], ◌∷◌}
use native.Mathlib.Omega.{arith}
use lib.ListN.{length}
use lib.Ieee.{Float}
use borrow.Author.Tests.{eqb-true}
use Rattle.std.specs.Prelude.{Ok}
use Rattle.scalar.specs.declared.Constants.{Constants}
use Rattle.answer.specs.Answer.{where_sized}
use Rattle.answer.proofs.Answers.{passed}
use Rattle.layout.proofs.Places.{placed-whole}
use Rattle.layout.proofs.Calls.{slice-put}
use Rattle.c_slices.specs.Calls.{constant_numbers}
use Rattle.c_slices.proofs.Ways.{told}
use Rattle.c_matrix.proofs.numbers.scalar_constants.Goals as goal

pub returns : goal.returns
returns c =
    let b = c.args.out.now in
    let t = passed _ _ (sym c.fits.ensures ∙ c.in_ok-fits.was) in
    let long : length b ≡ 6 = eqb-true (length b) 6 t in
    told Ok (λ t. where_sized t constant_numbers) b t
    (ap (λ (c : Constants). c.zero ∷ c.one ∷ c.two ∷ c.half ∷ c.pi ∷ c.epsilon ∷ []) c.constants-k.ensures) refl
    (ap (λ (l : List Float). (Ok tt, l)) (slice-put 0 b _ (omega arith) c.put_slice.ensures ∙ placed-whole _ b (sym long)))
