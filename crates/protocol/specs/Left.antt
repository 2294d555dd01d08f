-- How much of an answer is left.
use Rattle.std.specs.Prelude.{ℕ, ◌+◌, length, Some, None}
use Rattle.protocol.specs.declared.given.Answer.{Answer}

-- The bytes left, with the space before them; none behind the last word.
abbrev pub left : Answer → ℕ
left a = elim a.rest [ None ↦ 0 | Some rest ↦ length rest.now + 1 ]
