-- `matrix_vec_scale` meets its contract: all four numbers of a row are scaled, and the used ones are put.
use mathlib.Core.Path.{◌≡◌, sym, ap, ◌∙◌}
use mathlib.Core.List.{List}
use mathlib.Core.Bool.{◌&&◌}
use Prim.Native.Nat.{ℕ}
use native.Mathlib.Nat.{le_trans}
use lib.Ieee.{Float, nan}
use Rattle.std.specs.Prelude.{Ok}
use Rattle.scalar.specs.Number.{◌⊗◌}
use Rattle.answer.specs.Answer.{where_sized}
use Rattle.answer.specs.Table.{table}
use Rattle.answer.proofs.Tables.{table_ext, get_or-table}
use Rattle.algebra.specs.Matrix.{at, vec_scale}
use Rattle.algebra.specs.Array.{cut}
use Rattle.algebra.proofs.Vectors.{each-cut}
use Rattle.sizes.proofs.Sizes.{Bounds, bounds_of}
use Rattle.c_slices.proofs.Ways.{whole_vector, numbers, read_vector, told, vector-out}
use Rattle.c_vector.proofs.matrix_vec_scale.Goals as goal

scaled_cut : (n : ℕ) (x : List Float) (s : Float) → Bounds n → cut n (vec_scale 4 x s) ≡ vec_scale n (cut n x) s
unfolding cut vec_scale
scaled_cut n x s e =
    let f : ℕ → Float = λ i. at x i ⊗ s in
    table_ext n (λ i. at (table 4 f) i) f (λ i h. get_or-table 4 f i nan (le_trans h e.most)) ∙ sym (each-cut (λ y. y ⊗ s) n x)

pub returns : goal.returns
returns c =
    let a = c.args in
    let v = whole_vector a.n a.v.now c.vector.ensures c.in_ok-size.was in
    let o = whole_vector a.n a.out.now c.vector-2.ensures c.in_ok-vector.was in
    let x = read_vector v v.rows _ c.numbers_in-x.ensures in
    told (λ z. Ok (cut a.n z)) (λ b. where_sized b (vec_scale a.n a.v.now a.s)) a.out.now (λ i. v.is i && o.is i) c.row_scaled.ensures
    (ap Ok (scaled_cut _ _ _ (bounds_of _ v.size) ∙ λ i. vec_scale a.n (x i) a.s))
    (ap (λ (l : List Float). (Ok tt, l)) (vector-out _ _ (numbers o) v.rows c.put_vector.ensures))
