-- What the loop of `mix_covariances` keeps.
use mathlib.Core.Path.{◌≡◌}
use Rattle.sizes.specs.Size.{count}
use Rattle.c_bank.proofs.Rowing.{Rowing}
use Rattle.c_bank.proofs.mix_covariances.Given as goal

abbrev pub invariant-loop-r : goal.invariant-loop-r
invariant-loop-r l = (l.states ≡ count l.places.n) × Rowing (count l.places.n) (count l.places.k) l.places.step l.places.p l.by.x.now l.by.m.now l.by.w.now l.initial.bank l.r l.bank
