-- Outcomes made in steps: what is known of the steps is known of the whole. Assumes nothing.
use mathlib.Core.Path.{◌≡◌, refl, sym, subst}
use Rattle.std.specs.Prelude.{Ok, Err}
use Rattle.answer.specs.Answer.{Answer}
use Rattle.answer.specs.Outcome.{Left, unchanged, this, Outcome, final, later, onward}
use Rattle.answer.proofs.Answers.{Told, number, result_of}

module _ {S : Type 0} where
  -- from s: where something is told, it and what is there in the end have P
  abbrev pub Ends : {R : Type 0} → S → (S → R → Type 0) → Outcome S R → Type 0
  Ends s P o = Told (λ k. Unit {0}) (P (final s o.left)) o.told

  final-later : (s : S) (l m : Left S) → final s (later l m) ≡ final (final s l) m
  final-later s l unchanged = refl
  final-later s l (this t) = refl

  pub ends-onward : {A B : Type 0} (P : S → A → Type 0) (Q : S → B → Type 0) (s : S) (o : Outcome S A) (f : S → A → Outcome S B)
      → Ends s P o → ((t : S) (a : A) → P t a → Ends t Q (f t a)) → Ends s Q (onward s o f)
  ends-onward {A} {B} P Q s o f e h = by o.told o.left e
    where
      by : (a : Answer A) (l : Left S) → Told (λ k. Unit {0}) (P (final s l)) a → Ends s Q (onward s (record { told = a; left = l }) f)
      by (Err k) l t = number tt
      by (Ok a) l t =
          let p = f (final s l) a in
          subst (λ (x : S). Told (λ k. Unit {0}) (Q x) p.told) (sym (final-later s l p.left)) (h (final s l) a (result_of t refl))
