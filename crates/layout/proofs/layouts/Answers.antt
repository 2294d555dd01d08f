-- `layouts` keeps its promise: the laws of layouts.
use Rattle.algebra.proofs.Matrices.{shape-mat}
use Rattle.layout.proofs.Rows.{length-rows}
use Rattle.layout.proofs.Parts.{part-before, part-within, part_placed, part-kept, pair-total, slot-total, filter-total}
use native.Mathlib.Omega.{arith}
use Rattle.layout.proofs.layouts.Goals as goal

pub returns : goal.returns
returns c = record {
  pair = pair-total;
  slot = slot-total;
  filter = filter-total;
  model = λ n. omega arith;
  bank = λ n m k. omega arith;
  second = λ n. omega arith;
  last = λ n m i. omega arith;
  apart = λ L j k h g. part-before L j k h (omega arith);
  within = part-within;
  read_back = λ L b k f h g. part_placed L b g k _ h (shape-mat _ _ f);
  others = λ L b j k f p q n g. part-kept L b g j k _ p q n (length-rows _ _ _ (shape-mat _ _ f));
}
