-- What `map` gives of an answer. Assumes nothing.
use mathlib.Core.Path.{◌≡◌, ap}
use Rattle.std.specs.Prelude.{Ok, Err, IsOkAnd}
use Rattle.std.specs.Result.{MatchResult}
use Rattle.answer.specs.Answer.{Answer, mapped}

pub map_gives : {A B : Type 0} {Q : A → B → Type 0} (g : A → B) (o : Answer A) {w : Answer B} → MatchResult o (λ x. IsOkAnd w (Q x)) (λ e. w ≡ Err e)
    → ((x : A) (r : B) → Q x r → r ≡ g x) → w ≡ mapped g o
map_gives g (Err k) p h = p
map_gives g (Ok x) {w = Ok y} p h = ap Ok (h x y p)
map_gives g (Ok x) {w = Err k} p h = absurd p
