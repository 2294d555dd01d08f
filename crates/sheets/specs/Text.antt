-- A text as its bytes, and lines of text one after another, for the worked cases. Definitions only.
use Rattle.std.specs.Prelude.{ℕ, List, [], ◌∷◌, ◌++◌}
use Prim.Native.String.{String, len, char_at}
use Prim.Native.Char.{code}
use Rattle.answer.specs.Table.{table}

-- of a text without a character that takes several bytes
abbrev pub bytes : String → List ℕ
bytes t = table (len t) (λ i. code (char_at t i))

unfoldable pub text : List String → List ℕ
text [] = []
text (t ∷ ts) = bytes t ++ (10 ∷ text ts)
