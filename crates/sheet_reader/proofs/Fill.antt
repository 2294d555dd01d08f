-- A loop that reads lines into an array: its steps, for any lines. Assumes nothing.
use mathlib.Core.Path.{◌≡◌, refl, sym, ◌∙◌}
use mathlib.Core.Bool.{Bool, true, false, cond}
use mathlib.Core.List.{List, [], ◌∷◌, ◌++◌, append_assoc, append-nil}
use Prim.Native.Nat.{ℕ, suc, ◌+◌, ◌-◌, ◌*◌, ◌≤◌, ◌<◌}
use native.Mathlib.Nat.{mul-add, mul-one, add_assoc}
use native.Mathlib.Omega.{arith}
use lib.IntN.{ℤ}
use lib.ListN.{length, set, replicate, length-append}
use Rattle.std.specs.Prelude.{map, Option, Some, None, Result, Ok, Err, IsErrAnd}
use Rattle.std.specs.Option.{ok_or}
use Rattle.std.proofs.lemmas.Option.{cond_some}
use Rattle.std.proofs.lemmas.Result.{err_from_is_err_and}
use Rattle.answer.specs.Table.{pad_to}
use Rattle.answer.proofs.Tables.{set-pad_to}
use Rattle.answer.specs.declared.Refusal.TheVariants.{BadForm, OutOfRange}
use Rattle.sheets.specs.Verdict.{Verdict, refused, mapped, prepend}
use Rattle.sheets.specs.Line.{form, values, read_lines}
use Rattle.sheet_reader.specs.Held.{line_at, rows_held, said_by, test_by}

pub cond_none : {A : Type 0} (b : Bool) (y : A) → cond b (Some y) None ≡ None → b ≡ false
cond_none true y e = cc
cond_none false y e = refl

-- what is read from a line on, by its numbers
abbrev pub onward : (List ℤ → Bool) → ℕ → (List ℤ → Verdict (List (List ℤ))) → Option (List ℤ) → Verdict (List (List ℤ))
onward ok l rest None = refused BadForm l
onward ok l rest (Some zs) = cond (ok zs) (prepend zs (rest zs)) (refused OutOfRange l)

pub read_next : (k : ℕ) (ok : List ℤ → List ℤ → Bool) (n : ℕ) (before : List ℤ) (l at : ℕ) (s : List ℕ)
    → read_lines k ok (suc n) before l at s ≡ onward (ok before) l (λ zs. read_lines k ok n zs (l + 1) (at + (8 * k + 1)) s) (line_at k s at)
unfolding read_lines
read_next k ok n before l at s = go (form k s at)
  where
    rest : List ℤ → Verdict (List (List ℤ))
    rest zs = read_lines k ok n zs (l + 1) (at + (8 * k + 1)) s

    go : (b : Bool) → cond b (cond (ok before (values k s at)) (prepend (values k s at) (read_lines k ok n (values k s at) (l + 1) (at + (8 * k + 1)) s)) (refused OutOfRange l)) (refused BadForm l)
        ≡ onward (ok before) l (λ zs. read_lines k ok n zs (l + 1) (at + (8 * k + 1)) s) (cond b (Some (values k s at)) None)
    go true = refl
    go false = refl

module _ {T : Type 0} (m : ℕ) (says : List ℤ → T) (ok : T → List ℤ → Bool) (k n l at : ℕ) (s : List ℕ) where
  -- e, followed by what rows say
  abbrev pub after : List T → List (List ℤ) → List T
  after e rows = pad_to m (says []) (e ++ map says rows)

  abbrev pub left : ℕ → List ℤ → Verdict (List (List ℤ))
  left i numbers = read_lines k (test_by says ok) (n - i) numbers (l + i) (at + (8 * k + 1) * i) s

  abbrev pub whole : Verdict (List T)
  whole = mapped (rows_held m says) (read_lines k (test_by says ok) n [] l at s)

  -- what the rows before i say stands in the array a, the last of them says `before`, and the others are read into what is after them
  pub record Fill (a : List T) (before : T) (i : ℕ) : Type 0 where
    pub e : List T
    pub numbers : List ℤ
    pub said : before ≡ says numbers
    pub long : length e ≡ i
    pub stands : a ≡ pad_to m (says []) e
    pub rest : whole ≡ mapped (after e) (left i numbers)

  pub fill_none : (z : T) → z ≡ says [] → Fill (replicate m z) z 0
  fill_none z h =
      let a : n - 0 ≡ n = omega arith in
      let b : l + 0 ≡ l = omega arith in
      let c : at + (8 * k + 1) * 0 ≡ at = omega arith in
      record { e = []; numbers = []; said = h; long = refl; stands = rw h; rest = rw (a, b, c) }

  after_prepend : (e : List T) (zs : List ℤ) (r : Verdict (List (List ℤ))) → mapped (after e) (prepend zs r) ≡ mapped (after (e ++ says zs ∷ [])) r
  after_prepend e zs (Err w) = refl
  after_prepend e zs (Ok rows) = rw (append_assoc e (says zs ∷ []) (map says rows))

module _ {T : Type 0} {m : ℕ} {says : List ℤ → T} {ok : T → List ℤ → Bool} {k n l at : ℕ} {s : List ℕ} {a : List T} {before : T} {i : ℕ} (f : Fill m says ok k n l at s a before i) where
  abbrev from : Option (List ℤ) → Verdict (List T)
  from o = mapped (after m says ok k n l at s f.e) (onward (test_by says ok f.numbers) (l + i) (λ zs. left m says ok k n l at s (i + 1) zs) o)

  next : i < n → whole m says ok k n l at s ≡ from (line_at k s (at + (8 * k + 1) * i))
  next h =
      let w : n - i ≡ suc (n - (i + 1)) = omega arith in
      let c : at + (8 * k + 1) * i + (8 * k + 1) ≡ at + (8 * k + 1) * (i + 1) = rw (mul-add (8 * k + 1) i 1, mul-one (8 * k + 1)) (add_assoc at ((8 * k + 1) * i) (8 * k + 1)) in
      let d : l + i + 1 ≡ l + (i + 1) = add_assoc l i 1 in
      f.rest ∙ rw (w, read_next, c, d)

  -- o is what the next line's form gives, and b what its numbers say
  module _ {o : Option (List ℤ)} (h : i < n) (q : o ≡ line_at k s (at + (8 * k + 1) * i)) where
    pub fill_bad : o ≡ None → whole m says ok k n l at s ≡ refused BadForm (l + i)
    fill_bad p = next h ∙ rw (← q, p)

    module _ {zs : List ℤ} {b : Option T} (p : o ≡ Some zs) (r : b ≡ said_by says ok before zs) where
      pub fill_out : b ≡ None → whole m says ok k n l at s ≡ refused OutOfRange (l + i)
      fill_out e = let v = rw f.said at (cond_none (ok before zs) (says zs) (sym r ∙ e)) in next h ∙ rw (← q, p, v)

      pub fill_more : {x : T} → n ≤ m → b ≡ Some x → Fill m says ok k n l at s (set a i x) x (i + 1)
      fill_more {x} fits d =
          let (c, v) = cond_some (ok before zs) (says zs) x (sym r ∙ d) in
          let u = rw f.said at c in
          let place : length f.e < m = omega (arith, f.long) in
          record {
            e = f.e ++ x ∷ [];
            numbers = zs;
            said = sym v;
            long = let y = f.long in simp length-append (omega arith);
            stands = rw (f.stands, ← f.long) (set-pad_to m (says []) f.e x place);
            rest = next h ∙ rw (← q, p, u, after_prepend, v);
          }

  pub fill_all : n ≤ i → whole m says ok k n l at s ≡ Ok a
  unfolding read_lines
  fill_all h = let w : n - i ≡ 0 = omega arith in f.rest ∙ rw (w, append-nil, ← f.stands)

-- ---- what options answered

-- r is what `?` returns of a result that was made of an option
pub stopped : {A B E : Type 0} (o : Option A) (w : E) {v : E} (r : Result B E) → Err v ≡ ok_or o w → IsErrAnd r (λ e. e ≡ v) → (o ≡ None) × (r ≡ Err w)
stopped None w r e f = let (x, p, q) = err_from_is_err_and r f in (refl, cc)
stopped (Some x) w r e f = cc

pub some_of : {A E : Type 0} (o : Option A) (w : E) (x : A) → Ok x ≡ ok_or o w → o ≡ Some x
some_of None w x e = cc
some_of (Some y) w x e = cc
