-- `from_information` meets its contract.
use Rattle.matrix.proofs.Results.{value_answered}
use Rattle.steps.proofs.Sizes.{sized_given}
use Rattle.steps.proofs.Flats.{leading_of, flat_of}
use Rattle.information_filter.proofs.InformationFilter.from_information.Goals as goal

pub returns : goal.returns
returns c =
    let a = c.args in
    let s = sized_given _ _ _ c.sized.ensures c.in_ok-sn.was in
    value_answered _ s.passed
    (λ k. record {
      n = a.n;
      m = a.m;
      i = a.i;
      a = flat_of a.a s.states s.states c.flat_part.ensures k;
      b = flat_of a.b s.states s.inputs c.flat_part-2.ensures k;
      h = flat_of a.h s.measurements s.states c.flat_part-3.ensures k;
      q = flat_of a.q s.states s.states c.flat_part-4.ensures k;
      r = flat_of a.r s.measurements s.measurements c.flat_part-5.ensures k;
      omega = flat_of a.omega0 s.states s.states c.flat_part-6.ensures k;
      xi = leading_of a.xi0 s.states c.leading.ensures k;
    })
