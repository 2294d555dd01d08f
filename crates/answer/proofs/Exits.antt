-- What a function returns at the exit of a `?`. Assumes nothing.
use mathlib.Core.Path.{◌≡◌, ap, ◌∙◌}
use Rattle.std.specs.Prelude.{Err, IsErrAnd}
use Rattle.std.proofs.lemmas.Result.{err_from_is_err_and}
use Rattle.answer.specs.declared.Refusal.{Refusal}
use Rattle.answer.specs.Answer.{Answer}

pub exit : {A : Type 0} {o : Answer A} {r : Refusal} → IsErrAnd o (λ e. e ≡ r) → o ≡ Err r
exit {o = o} q = let p = err_from_is_err_and o q in p.1 ∙ ap Err p.2
