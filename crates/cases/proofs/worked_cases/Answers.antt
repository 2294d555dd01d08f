-- `worked_cases` meets its contract: each crate's cases.
use Rattle.algebra.proofs.Cases as Algebra
use Rattle.filtering.proofs.Cases as Filtering
use Rattle.mixing.proofs.Cases as Mixing
use Rattle.smoothing.proofs.Cases as Smoothing
use Rattle.cases.specs.Cases.{Table}
use Rattle.cases.proofs.worked_cases.Goals as goal

table : Table
table = record {
  algebra = Algebra.cases;
  filtering = Filtering.cases;
  mixing = Mixing.cases;
  smoothing = Smoothing.cases;
  filtering-rust = Filtering.rust;
  mixing-rust = Mixing.rust;
}

pub returns : goal.returns
returns c = table
