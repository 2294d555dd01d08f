-- `textbook` meets its contract: a walk of its MIR, by hand, since the borrow checker reads only facts of `Type 0`. It returns (), beside the statements.
use mathlib.Core.Path.{refl}
use mathlib.Core.List.{List, [], ◌∷◌}
use seplogic.Ra.Ura.{Ura}
use mir.Val.{Val, vunit}
use base.Logic.{SProp, ent, sep, emp, via, fst∗, emp∗, comm∗, mono_l}
use base.Fml.{ftrue}
use prog.Memory.{Memory}
use prog.Routine.{Routine}
use prog.Wp.{Calls, Loops, WpFn}
use types.Logic.{Logic}
use contract.Monad.{Fun, fact, fact_i}
use contract.Running.{tables}
use types.Kit.{‵, ◌$◌, ◌∵◌, !, qed, by, keep, suffices, feq_i, done}
use types.Run.{look, init, forget, stop, from, unit_lit, of_opd, assigns, returns, enter, alloc1, alloc0, params1, pass0, free1, free0}
use denote.RattleType.{owns}
use denote.Steps.{nothing}
use denote.Triple.Entry.{on_entry}
use denote.Triple.Walked.{walk_of, ends_at}
use Rattle.textbook.specs.Textbook.{Textbook}
use Rattle.std.proofs.raw_atomic.Walks.{proved}
use Rattle.textbook.proofs.Statements.{statements}
use Rattle.textbook.specs.contracts.textbook as f
use Rattle.textbook.proofs.textbook.Statement as stated
use Rattle.textbook.proofs.textbook.Code as code

module _ {M : Type 1} {𝓤 : Ura M} (𝓛 : Logic 𝓤) (mem : Memory → SProp 𝓤) (run : Routine → Fun 𝓤) where
  -- the statements hold beside anything
  open 𝓛 use {H}

  beside : (P : SProp 𝓤) → ent 𝓤 P (sep 𝓤 P (fact 𝓤 Textbook))
  beside P =
      via 𝓤 (sep 𝓤 (emp 𝓤) P) (emp∗ 𝓤 P)
      (via 𝓤 (sep 𝓤 (fact 𝓤 Textbook) P) (mono_l 𝓤 P (fact_i 𝓤 Textbook (emp 𝓤) statements)) (comm∗ 𝓤 (fact 𝓤 Textbook) P))

  abbrev Post : Val → SProp 𝓤
  Post = (walk_of 𝓛 f.ended tt (f.clauses 𝓛 mem run)).post ((tt, tt, tt, tt, tt), tt)

  exits : ent 𝓤 (emp 𝓤) (Post vunit)
  exits =
      qed 𝓛 [] ∵
      suffices ! _ (ends_at 𝓛 f.ended tt (f.clauses 𝓛 mem run) ((tt, tt, tt, tt, tt), tt) vunit tt tt tt) $
      suffices ! _ (beside _) $
      feq_i ! (List Val) (vunit ∷ []) (vunit ∷ []) refl $ nothing ! $ nothing ! $ done !

  walk : (C : Calls 𝓤 H) (Λ : Loops 𝓤 H) → ent 𝓤 (on_entry 𝓛 f.signature tt tt tt tt) (WpFn 𝓤 H C Λ code.function [] Post)
  walk C Λ =
      qed 𝓛 (‵ ftrue ∷ ‵ (owns [] tt tt) ∷ []) ∵ enter ! C Λ code.function [] _ $
      alloc1 ! (λ l₀. alloc0 ! $ params1 ! $ pass0 ! $
      assigns ! (of_opd ! (unit_lit !)) (from ! (stop !)) (init ! 0 refl (tt, tt)) $
      returns ! (look ! 0 refl) $ forget ! 0 refl $ free1 ! $ free0 ! $ keep ! [] $ by ! exits)

pub textbook_spec : {M : Type 1} → stated.statement M
textbook_spec 𝓤 𝓛 𝓜 𝓡 wired =
    let c = f.clauses 𝓛 𝓜.mem 𝓡.returns in
    let 𝓣 = tables 𝓤 𝓛.H 𝓜 𝓡 𝓡.env in
    proved 𝓛 f.ended tt c 𝓜 𝓡 tt f.Key.name code.function (code.unfolded 𝓤 𝓛.H 𝓜 𝓡 wired)
    (λ κs. tt) (λ κs. tt) (λ κs qs bounds a g are. via 𝓤 _ (fst∗ 𝓤 _ (emp 𝓤)) (walk 𝓛 𝓜.mem 𝓡.returns 𝓣.C 𝓣.Λ))
