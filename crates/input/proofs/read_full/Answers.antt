-- `read_full` keeps that the front of the buffer is what was consumed.
use Rattle.std.proofs.Common.{◌≡◌, ℕ, ◌+◌, ◌-◌, ◌≤◌, List, ◌++◌, rules, length, take, sym, ap, ◌∙◌, subst, length-take-le}
use Rattle.std.proofs.Math.Seq.{take-append-add}
use Rattle.std.proofs.lemmas.List.{take-append-le}
use Rattle.std.specs.Io.KnownBytes.{Consumes}
use Rattle.std.proofs.KnownBytes.{Consumes-trans}
use borrow.Rule.Slice.PartMut.{put_mid, post_of}
use Rattle.input.proofs.read_full.Goals as goal

-- of k bytes from `at` on, n were read
front : (at k n : ℕ) (xs ys : List ℕ) → at ≤ length xs → n ≤ length ys → take (at + n) (put_mid at k xs ys) ≡ take at xs ++ take n ys
front at k n xs ys within fits =
    ap (λ (l : ℕ). take (l + n) (put_mid at k xs ys)) (sym (length-take-le at xs within))
    ∙ take-append-add (take at xs) (ys ++ post_of at k xs) n
    ∙ ap (λ (l : List ℕ). take at xs ++ l) (take-append-le n ys (post_of at k xs) fits)

pub loop-done-preserved : goal.loop-done-preserved
loop-done-preserved g c =
    let v = c.loop-done.invariant in
    let joined = front c.loop-done.done (length c.loop-done.buf - c.loop-done.done) c.in_ok-n.n c.loop-done.buf c.read.new.buf v.1 c.in_ok-n.ensures.bound.0 in
    (search rules, search rules, subst (Consumes _ _) (sym joined) (Consumes-trans _ _ _ _ _ v.2 c.in_ok-n.ensures.bytes.0))
