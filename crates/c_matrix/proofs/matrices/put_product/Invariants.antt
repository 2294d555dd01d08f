-- What the loop of `put_product` keeps.
use Rattle.algebra.specs.Array.{used}
use Rattle.sizes.specs.Size.{count}
use Rattle.layout.specs.Layout.{matrix_at}
use Rattle.layout.proofs.Loops.{Putting}
use Rattle.c_matrix.proofs.Products.{product_row}
use Rattle.c_matrix.proofs.matrices.put_product.Given as goal

abbrev pub invariant-loop-i : goal.invariant-loop-i
invariant-loop-i l =
    Putting 0 (count l.c) (product_row (count l.k) (count l.c) (matrix_at (count l.fn.r) (count l.k) l.a 0) (used (count l.k) (count l.c) l.m)) l.initial.out (count l.fn.r) l.i l.out
