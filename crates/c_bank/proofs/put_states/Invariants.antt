-- What the loop of `put_states` keeps.
use Rattle.algebra.specs.Matrix.{row}
use Rattle.sizes.specs.Size.{front}
use Rattle.c_bank.proofs.Serials.{Serial}
use Rattle.c_bank.proofs.put_states.Given as goal

abbrev pub invariant-loop-j : goal.invariant-loop-j
invariant-loop-j l = Serial l.places.x l.places.step (λ j'. front l.places.n (row l.m j')) l.initial.bank l.models l.j l.bank
