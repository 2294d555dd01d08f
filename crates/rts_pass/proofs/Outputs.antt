-- The output of smoothing: the pairs in front of +0, as many numbers as it has room for; and the ways out of `smooth`. Assumes nothing.
use mathlib.Core.Path.{◌≡◌, refl, sym, ap, ap₂, ◌∙◌, subst}
use mathlib.Core.Bool.{Bool}
use mathlib.Core.List.{List, [], ◌∷◌, ◌++◌, map}
use Prim.Native.Nat.{ℕ, ◌+◌, ◌*◌, ◌≤◌, suc}
use native.Mathlib.Nat.{suc-mul, mul-le-mul_right}
use native.Mathlib.Omega.{arith}
use lib.ListN.{length, take, drop, replicate, length-append}
use lib.Seq.{take_at, length-take-le}
use lib.Ieee.{Float}
use Rattle.std.specs.Prelude.{Ok, Err, IsErrAnd}
use Rattle.answer.specs.declared.Refusal.{Refusal}
use Rattle.answer.specs.declared.Refusal.TheVariants.{InsufficientData}
use Rattle.answer.proofs.Exits.{exit}
use Rattle.sizes.specs.declared.Size.{Size}
use Rattle.sizes.specs.Size.{count, size_of}
use Rattle.scalar.specs.Number.{+0}
use Rattle.answer.specs.Answer.{Answer, mapped, where_sized, if_sized}
use Rattle.answer.specs.Table.{table, pad_to}
use Rattle.answer.proofs.Tables.{length-table, table_ext, length-pad_to, pad_to-pad_to}
use Rattle.algebra.specs.Matrix.{Matrix}
use Rattle.algebra.specs.Array.{used}
use Rattle.filtering.specs.Filter.{Estimate}
use Rattle.layout.specs.Layout.{joined, placed, pair_length, stride}
use Rattle.layout.proofs.Places.{placed-before, placed-after, length-placed}
use Rattle.smoothing.specs.Backward.{pass}
use Rattle.smoothing.specs.Smoother.{slot_gain, smoothed_pair, smooth_slots, smooth}
use Rattle.smoothing.proofs.Backward.{Each, each-table, pass-each, pass-count}
use Rattle.duty.specs.Buffer.{pair_at, slot_from, slot_at, slots_of, duty_of, pair_numbers, output_of}
use Rattle.duty.specs.Passed.{Passed, smooth_left, smooth_of}
use Rattle.duty.specs.Buffer.{smoothable}
use Rattle.duty.proofs.Sizes.{Given, Smoothable, smoothable_of, smoothable-given, output-small, passable}
use Rattle.duty.proofs.Pairs.{Paired, length-pair, paired_at, pair-back}
use Rattle.duty.proofs.Passes.{paired-smoothed, told-done, told-refused}

-- ---- pairs, one after another
length_pairs : (n : ℕ) (r : List Estimate) → Each (Paired n) r → length (joined (map pair_numbers r)) ≡ length r * pair_length n
unfolding Each
length_pairs n [] h = omega arith
length_pairs n (e ∷ r) h =
    length-append (pair_numbers e) (joined (map pair_numbers r))
    ∙ omega (arith, length-pair h.0, length_pairs n r h.1, suc-mul (length r) (pair_length n))

-- they are read back from where they were placed
pub pairs-back : (n : ℕ) (r : List Estimate) → Each (Paired n) r → (k : ℕ) (b : List Float) → k + length r * pair_length n ≤ length b
    → table (length r) (λ i. pair_at n (placed k (joined (map pair_numbers r)) b) (k + i * pair_length n)) ≡ r
unfolding Each
pairs-back n [] h k b f = refl
pairs-back n (e ∷ r) h k b f =
    let w = pair_length n in
    let l = pair_numbers e in
    let rest = joined (map pair_numbers r) in
    let long = length-pair h.0 in
    let all : suc (length r) * w ≡ length r * w + w = suc-mul (length r) w in
    let first : k + 0 * w ≡ k = omega arith in
    let long₁ = length-placed (k + length l) rest b (omega (arith, length_pairs n r h.1)) in
    let long₂ = length-placed k l b (omega arith) in
    ap₂ {C = List Estimate} (λ x t. x ∷ t)
    (ap₂ (pair_at n) (sym (placed-before k l rest b (omega arith))) first ∙ pair-back k (placed (k + length l) rest b) h.0 (omega arith))
    (table_ext (length r) _ (λ i. pair_at n (placed (k + length l) rest (placed k l b)) (k + length l + i * w))
    (λ i g. let here : k + suc i * w ≡ k + length l + i * w = omega (arith, suc-mul i w) in ap₂ (pair_at n) (sym (placed-after k l rest b (omega arith))) here)
    ∙ pairs-back n r h.1 (k + length l) (placed k l b) (omega arith))

-- ---- an output
pub in_front_of : (l : List Float) (m : ℕ) → placed 0 l (replicate m +0) ≡ pad_to m +0 l
unfolding placed
in_front_of l m = let e : 0 + length l ≡ length l = omega arith in ap (λ (k : ℕ). l ++ drop k (replicate m +0)) e

-- as many numbers of a longer buffer as it has room for
output_is : (n T N : ℕ) (r : List Estimate) → length (joined (map pair_numbers r)) ≤ T * pair_length n → T * pair_length n ≤ N
    → take (T * pair_length n) (placed 0 (joined (map pair_numbers r)) (replicate N +0)) ≡ output_of n T r
unfolding output_of
output_is n T N r h f =
    let m = T * pair_length n in
    let l = joined (map pair_numbers r) in
    ap (take m) (in_front_of l N ∙ sym (pad_to-pad_to N m +0 l h f)) ∙ take_at (pad_to m +0 l) _ m (length-pad_to m +0 l h)

-- ---- the pairs of smoothed slots: one for each slot, and each of size n
module _ (n : ℕ) (F : Matrix) (b : List Float) (c : ℕ) (r : List Estimate) (p : smooth_slots n F (slots_of n b c) ≡ Ok r) where
  pub smoothed-count : length r ≡ c
  unfolding smooth_slots
  smoothed-count = pass-count (λ s. s.filtered) (slot_gain n F) (smoothed_pair n) (slots_of n b c) r p ∙ length-table c (λ k. slot_at n b k)

  pub smoothed-pairs : Each (Paired n) r
  unfolding smooth_slots slot_from
  smoothed-pairs =
      pass-each (λ s. s.filtered) (slot_gain n F) (smoothed_pair n) (Paired n) (paired-smoothed n) (slots_of n b c)
      (each-table (λ s. Paired n s.filtered) c (λ k. slot_at n b k) (λ k. paired_at n b (k * stride n))) r p

  -- they take no more room than T pairs
  smoothed-length : {T : ℕ} → c ≤ T → length (joined (map pair_numbers r)) ≤ T * pair_length n
  smoothed-length {T} h =
      omega (arith, length_pairs n r smoothed-pairs, ap (λ (k : ℕ). k * pair_length n) smoothed-count, mul-le-mul_right (pair_length n) h)

-- ---- the ways out of `smooth`: s is the size that the test gave
module _ (n T c : ℕ) (b : List Float) (f : List (List Float)) (o : List Float) {s : Size} {q : Answer Size} (p : q ≡ where_sized (smoothable (length b) (length o) n T c) (size_of n))
    (g : q ≡ Ok s) where
  abbrev result_at : ℕ → Answer (List Estimate)
  result_at m = smooth_slots m (used m m f) (slots_of m b c)

  sizes : Given (smoothable (length b) (length o) n T c) n s
  sizes = smoothable-given (length b) (length o) n T c p g

  right : Smoothable (length b) (length o) n T c
  right = smoothable_of (length b) (length o) n T c sizes.passed

  small : T * pair_length n ≤ 1280
  small = let t = right.buffer.sizes in output-small t.bounds.most t.few

  -- the output is no longer than the buffer of the largest size
  pub shorter : {l : ℕ} → l ≡ 1280 → length o ≤ l
  shorter e = omega (arith, right.output, small)

  pub as_long : (l : List Float) → length l ≡ 1280 → length o ≡ length (take (length o) l)
  as_long l e = sym (length-take-le (length o) l (shorter e))

  -- what the pass asks for
  pub asked : 1 ≤ c → (1 ≤ c) × (c ≤ 64) × (c * stride (count s) ≤ length b) × (c * pair_length (count s) ≤ 1280)
  asked h = passable right h sizes.size

  -- a is what smoothing gives
  smooth-way : {a : Answer (List Estimate)} → result_at n ≡ a → smooth_left (λ l. l) o (mapped (output_of n T) a) ≡ smooth_of n T c b f o
  unfolding smooth duty_of
  smooth-way e =
      ap₂ (λ (t : Bool) (a : Answer (List Estimate)). smooth_left (λ l. l) o (if_sized t (mapped (output_of n T) a))) (sym sizes.passed) (sym e)

  pub smooth-none : c ≡ 0 → (Err InsufficientData, o) ≡ smooth_of n T c b f o
  unfolding smooth_slots pass
  smooth-none e = smooth-way (ap (λ (k : ℕ). smooth_slots n (used n n f) (slots_of n b k)) e)

  -- the pass over a buffer of +0 was refused, or answered: t is what is told, and l what the buffer holds
  module _ {t : Answer Unit} {l : List Float} (e : Passed (result_at (count s)) (replicate 1280 +0) l t) where
    here : Passed (result_at n) (replicate 1280 +0) l t
    here = subst (λ (k : ℕ). Passed (result_at k) (replicate 1280 +0) l t) sizes.size e

    -- r is what is returned
    pub smooth-stopped : (r : Answer Unit) {k : Refusal} → IsErrAnd r (λ e. e ≡ k) → t ≡ Err k → (r, o) ≡ smooth_of n T c b f o
    smooth-stopped r e d = (λ i. (exit e i, o)) ∙ smooth-way (told-refused (result_at n) here.told d)

    pub smooth-done : {z : List Float} {u : Unit} → t ≡ Ok u → z ≡ take (length o) l → (Ok tt, z) ≡ smooth_of n T c b f o
    smooth-done {z} d q =
        let (r, p) = told-done (result_at n) here.told d in
        let pairs : take (length o) l ≡ output_of n T r =
        ap₂ (λ (k : ℕ) (l : List Float). take k l) right.output (here.pairs r p)
        ∙ output_is n T 1280 r (smoothed-length n (used n n f) b c r p right.buffer.sizes.within) small in
        (λ i. (Ok tt, (q ∙ pairs) i)) ∙ smooth-way p
