-- A text in a lent buffer, and one text after another. Assumes nothing.
use mathlib.Core.Path.{◌≡◌, refl, sym, ap, ◌∙◌, subst}
use mathlib.Core.List.{List, ◌++◌, append_assoc}
use Prim.Native.Nat.{ℕ, ◌+◌, ◌-◌, ◌≤◌}
use native.Mathlib.Omega.{arith}
use borrow.Rule.Slice.PartMut.{put_mid}
use lib.ListN.{length, take, drop, length-append}
use lib.Seq.{take-paste, drop-paste, length-paste, take_all, drop-drop}
use Rattle.std.proofs.lemmas.Slice.{put_mid-paste}
use Rattle.picture.specs.Picture.{Stored}

pub stored_part : (d : List ℕ) (at : ℕ) (f p : List ℕ) → p ≡ f → at + length f ≤ length d → Stored d (put_mid at (at + length f - at) d p) at f (at + length f)
stored_part d at f p e h =
    let u : take (length f) f ≡ f = take_all (length f) f (omega arith) in
    rw (put_mid-paste at (at + length f - at) d p f (length f) e (omega arith) refl)
    (record {
      next = refl;
      upto = rw (take-paste d at f (length f) (omega arith) (omega arith), u);
      rest = drop-paste d at f (length f) (omega arith) (omega arith);
      same = length-paste d at f (length f) h (omega arith);
    })

pub stored_both : {d e g : List ℕ} {at q r : ℕ} {t u : List ℕ} → Stored d e at t q → Stored e g q u r → Stored d g at (t ++ u) r
stored_both {d} {e} {g} {at} {q} {r} {t} {u} a b =
    let n : r ≡ at + (length t + length u) = omega (arith, a.next, b.next) in
    let k : q + (r - q) ≡ r = omega (arith, a.next, b.next) in
    let w : drop r e ≡ drop r d = subst (λ (i : ℕ). drop i e ≡ drop i d) k (sym (drop-drop (r - q) q e) ∙ ap (drop (r - q)) a.rest ∙ drop-drop (r - q) q d) in
    record {
      next = n ∙ rw (length-append t u);
      upto = b.upto ∙ rw (a.upto, append_assoc);
      rest = b.rest ∙ w;
      same = b.same ∙ a.same;
    }
