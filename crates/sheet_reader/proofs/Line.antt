-- A line's fields, read one after another. Assumes nothing.
use mathlib.Core.Path.{◌≡◌, refl, sym, ap, ◌∙◌}
use mathlib.Core.Bool.{true, false}
use mathlib.Core.List.{List, ◌∷◌, append-nil}
use Prim.Native.Nat.{ℕ, zero, suc, ◌+◌, ◌-◌, ◌*◌, ◌≤◌, ◌<◌}
use native.Mathlib.Omega.{arith}
use lib.IntN.{ℤ, pos}
use lib.ListN.{length, set, replicate, length-replicate, drop_of_length-le}
use borrow.Author.Tests.{le-leb}
use Rattle.std.specs.Prelude.{Some, None}
use Rattle.answer.specs.Table.{table}
use Rattle.answer.proofs.Tables.{table_ext, filled, filled_more}
use Rattle.sheets.specs.Line.{field_at, or_zero, fields_read, form, values}
use Rattle.sheets.proofs.Lines.{fields_bad, fields-step, fields-end}
use Rattle.sheet_text.specs.Held.{field_in}
use Rattle.sheet_reader.specs.Held.{line_at}

-- number i of the line at `at`
abbrev pub number : List ℕ → ℕ → ℕ → ℤ
number s at i = or_zero (field_at s (at + 8 * i))

values_table : (k : ℕ) (s : List ℕ) (at : ℕ) → values k s at ≡ table k (number s at)
unfolding values
values_table zero s at = refl
values_table (suc k) s at =
    let z : at ≡ at + 8 * 0 = omega arith in
    let e : (i : ℕ) → i < k → number s (at + 8) i ≡ number s at (suc i) = λ i h. ap (λ (a : ℕ). or_zero (field_at s a)) (let y : at + 8 + 8 * i ≡ at + 8 * suc i = omega arith in y) in
    ap (λ (a : ℕ). or_zero (field_at s a) ∷ values k s (at + 8)) z ∙ ap (λ (t : List ℤ). number s at 0 ∷ t) (values_table k s (at + 8) ∙ table_ext k (number s (at + 8)) (λ i. number s at (suc i)) e)

-- the first i of the line's k fields are read, and stand at the start of l
pub record Reads (k at : ℕ) (s : List ℕ) (i : ℕ) (l : List ℤ) : Type 0 where
  pub there : at + 8 * k < length s
  pub rest : form k s at ≡ fields_read (k - i) s (at + 8 * i)
  pub read : l ≡ filled i (number s at) (replicate k (pos 0))

pub no_line : (k : ℕ) (s : List ℕ) (at : ℕ) → form k s at ≡ false → None ≡ line_at k s at
no_line k s at e = rw e

module _ {k at : ℕ} {s : List ℕ} {i : ℕ} {l : List ℤ} (r : Reads k at s i l) where
  -- the field that is read is there
  pub this_field : i < k → field_in s (at + 8 * i) ≡ field_at s (at + 8 * i)
  this_field h = let t = r.there in rw (le-leb (at + 8 * i + 8) (length s) (omega arith))

  pub reads_bad : i < k → field_in s (at + 8 * i) ≡ None → None ≡ line_at k s at
  reads_bad h e =
      let f : field_at s (at + 8 * i) ≡ None = sym (this_field h) ∙ e in
      no_line k s at (r.rest ∙ fields_bad k i at s h (rw f))

  pub reads_more : (z : ℤ) → i < k → field_in s (at + 8 * i) ≡ Some z → Reads k at s (i + 1) (set l i z)
  reads_more z h e =
      let f : field_at s (at + 8 * i) ≡ Some z = sym (this_field h) ∙ e in
      record {
        there = r.there;
        rest = r.rest ∙ fields-step k i at s h (rw f);
        read = filled_more i (number s at) (replicate k (pos 0)) l z (let n = length-replicate {A = ℤ} k (pos 0) in omega arith) r.read (rw f);
      }

  pub reads_all : k ≤ i → i ≤ k → Some l ≡ line_at k s at
  reads_all h g =
      let n : i ≡ k = omega arith in
      let f : form k s at ≡ true = r.rest ∙ fields-end k i at s h in
      let z : length (replicate k (pos 0)) ≤ k = let m = length-replicate {A = ℤ} k (pos 0) in omega arith in
      let v : l ≡ values k s at = r.read ∙ rw (n, drop_of_length-le (replicate k (pos 0)) z, append-nil, ← values_table k s at) in
      rw (f, v)
