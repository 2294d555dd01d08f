-- A step on the rows that were read from a slice is the step on the bank in it, and what is put back is what it leaves. Assumes nothing.
use mathlib.Core.Path.{◌≡◌, refl, sym, ap, ◌∙◌}
use mathlib.Core.List.{List, []}
use mathlib.Core.Bool.{Bool, true, false, cond}
use Prim.Native.Nat.{ℕ}
use lib.ListN.{length}
use lib.Ieee.{Float, lt}
use Rattle.scalar.specs.Number.{◌⊗◌, ◌⊘◌, epsilon}
use Rattle.answer.specs.Table.{table}
use Rattle.answer.proofs.Tables.{length-table}
use Rattle.algebra.specs.Matrix.{Matrix, at, sum_of}
use Rattle.algebra.specs.Array.{cut, pad_row}
use Rattle.algebra.proofs.Arrays.{cut-pad_row}
use Rattle.sizes.specs.Size.{count, front}
use Rattle.mixing.specs.Mixing.{Bank, uniform, weighted, update_probabilities, fused_estimate}
use Rattle.layout.specs.Layout.{placed}
use Rattle.layout.proofs.Places.{placed-whole}
use Rattle.imm_steps.specs.Bank.{bank_rows}
use Rattle.imm_steps.proofs.Holders.{Held, fused-held, probabilities-held}
use Rattle.c_bank.specs.declared.places.Places.{Places}
use Rattle.c_bank.specs.Bank.{bank_at, with_probabilities}
use Rattle.c_bank.proofs.Banks.{Placed, by_numbers}
use Rattle.c_bank.proofs.Readings.{rows_read, numbers_read, probabilities-read, likelihoods-read, covariances, estimates-read}

-- ---- how long the results are
pub length-uniform : (k : ℕ) → length (uniform k) ≡ k
unfolding uniform
length-uniform k = length-table k _

length-updated : (K : ℕ) (B : Bank) → length (update_probabilities K B).probabilities ≡ K
unfolding update_probabilities
length-updated K B =
    let p = table K (λ k. at B.probabilities k ⊗ at B.likelihoods k) in
    let s = sum_of K (at p) in
    go (lt s epsilon) (λ k. at p k ⊘ s)
  where
    go : (t : Bool) (f : ℕ → Float) → length (cond t (uniform K) (table K f)) ≡ K
    go true f = length-uniform K
    go false f = length-table K f

length-fused : (n K : ℕ) (B : Bank) → length (fused_estimate n K B) ≡ n
unfolding fused_estimate weighted
length-fused n K B = length-table n _

-- numbers put back of an array that has them
pub numbers-put : (n q : ℕ) (u b : List Float) {v b₁ : List Float} → length u ≡ n → v ≡ pad_row u → b₁ ≡ placed q (cut n v) b → b₁ ≡ placed q u b
numbers-put n q u b d p r = r ∙ ap (λ (w : List Float). placed q w b) (ap (cut n) p ∙ cut-pad_row n u d)

-- ---- the probabilities, updated
abbrev Updates : Places → ℕ → List Float → ℕ → ℕ → Type 0
Updates P m b n k = Placed n m k (length b) P → (l μ v b₁ : List Float) → l ≡ numbers_read (count P.k) P.likelihood P.step b → μ ≡ numbers_read (count P.k) P.mu 1 b
    → v ≡ pad_row (update_probabilities (count P.k) (bank_rows P.k P.k [] [] l μ)).probabilities
    → b₁ ≡ placed P.mu (front P.k v) b → b₁ ≡ with_probabilities n m k b (update_probabilities k (bank_at n m k b))

own-updates : (P : Places) (m : ℕ) (b : List Float) → Updates P m b (count P.n) (count P.k)
own-updates P m b G l μ v b₁ e d s r =
    let B = bank_at (count P.n) m (count P.k) b in
    let U = update_probabilities (count P.k) B in
    numbers-put (count P.k) P.mu U.probabilities b (length-updated (count P.k) B)
    (s ∙ ap pad_row (probabilities-held P.k B l μ refl (likelihoods-read P m b G e) (probabilities-read P m b G d))) r
    ∙ ap (λ (q : ℕ). placed q U.probabilities b) G.mu

pub updates : (P : Places) (m : ℕ) (b : List Float) {n k : ℕ} → Placed n m k (length b) P → Updates P m b n k
updates P m b g = by_numbers (Updates P m b) g (own-updates P m b)

-- ---- the fused state
abbrev Fuses : Places → ℕ → List Float → ℕ → ℕ → Type 0
Fuses P m b n k = Placed n m k (length b) P → (x : Matrix) (μ v o o₁ : List Float) → x ≡ rows_read (count P.k) P.x P.step b → μ ≡ numbers_read (count P.k) P.mu 1 b
    → v ≡ pad_row (weighted (count P.n) (count P.k) (bank_rows P.n P.k x [] [] []) (front P.k μ)) → length o ≡ n
    → o₁ ≡ placed 0 (front P.n v) o → o₁ ≡ fused_estimate n k (bank_at n m k b)

own-fuses : (P : Places) (m : ℕ) (b : List Float) → Fuses P m b (count P.n) (count P.k)
own-fuses P m b G x μ v o o₁ e d s l r =
    let F = fused_estimate (count P.n) (count P.k) (bank_at (count P.n) m (count P.k) b) in
    let long = length-fused (count P.n) (count P.k) (bank_at (count P.n) m (count P.k) b) in
    let h : Held P.n P.k x (covariances P m b G) (count P.n) (count P.k) (bank_at (count P.n) m (count P.k) b) = record { states = refl; models = refl; estimates = estimates-read P m b G e } in
    numbers-put (count P.n) 0 F o long (s ∙ ap pad_row (fused-held h μ (probabilities-read P m b G d))) r ∙ placed-whole F o (long ∙ sym l)

pub fuses : (P : Places) (m : ℕ) (b : List Float) {n k : ℕ} → Placed n m k (length b) P → Fuses P m b n k
fuses P m b g = by_numbers (Fuses P m b) g (own-fuses P m b)
