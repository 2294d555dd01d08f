-- What the loop of `mix_row` keeps.
use Prim.Native.Nat.{◌<◌}
use Rattle.sizes.specs.Size.{count}
use Rattle.c_bank.specs.Bank.{mixed_row_in}
use Rattle.c_bank.proofs.Serials.{Serial}
use Rattle.c_bank.proofs.mix_row.Given as goal

abbrev pub invariant-loop-j : goal.invariant-loop-j
invariant-loop-j l =
    (l.r < 4) × Serial l.q l.places.step (mixed_row_in (count l.places.n) (count l.places.k) l.places.step l.by.x.now l.by.m.now l.by.w.now l.initial.bank l.q l.r) l.initial.bank l.models l.j l.bank
