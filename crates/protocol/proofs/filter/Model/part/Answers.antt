-- `part` meets its contract: each part begins where the one before it ends.
use Rattle.std.proofs.Common.{◌≡◌, ℕ, List, ◌++◌, take, drop, refl, append_assoc}
use Rattle.std.proofs.lemmas.List.{take-append-drop}
use Rattle.protocol.proofs.filter.Model.part.Goals as goal

joined : {A : Type 0} (n : ℕ) (part rest all : List A) → part ≡ take n all → rest ≡ drop n all → part ++ rest ≡ all
joined n part rest all e f = rw (e, f) (take-append-drop n all)

pub returns-clause-words : goal.returns-clause-words
returns-clause-words c =
    let a : c.part-a.result.now ++ c.part-a.new.self.rest.now ≡ c.args.words.now.rest.now =
    joined _ _ _ _ c.part-a.ensures.value c.part-a.ensures.rest in
    let b : c.part-b.result.now ++ c.part-b.new.self.rest.now ≡ c.part-a.new.self.rest.now =
    joined _ _ _ _ c.part-b.ensures.value c.part-b.ensures.rest in
    let h : c.part-h.result.now ++ c.part-h.new.self.rest.now ≡ c.part-b.new.self.rest.now =
    joined _ _ _ _ c.part-h.ensures.value c.part-h.ensures.rest in
    let q : c.part-q.result.now ++ c.part-q.new.self.rest.now ≡ c.part-h.new.self.rest.now =
    joined _ _ _ _ c.part-q.ensures.value c.part-q.ensures.rest in
    let r : c.part-r.result.now ++ c.part-r.new.self.rest.now ≡ c.part-q.new.self.rest.now =
    joined _ _ _ _ c.part-r.ensures.value c.part-r.ensures.rest in
    simp (append_assoc, r, q, h, b, a) refl
