-- `from_cholesky` meets its contract: the used parts, laid flat.
use Rattle.matrix.proofs.Results.{value_answered}
use Rattle.steps.proofs.Flats.{flat_of, leading_of}
use Rattle.steps.proofs.Sizes.{sized_given}
use Rattle.sqrt_kalman.proofs.SqrtKalman.from_cholesky.Goals as goal

pub returns : goal.returns
returns c =
    let a = c.args in
    let s = sized_given a.n a.m a.i c.sized.ensures c.in_ok-sn.was in
    value_answered _ s.passed
    (λ k. record {
      n = a.n;
      m = a.m;
      i = a.i;
      a = flat_of a.a s.states s.states c.flat_part.ensures k;
      b = flat_of a.b s.states s.inputs c.flat_part-2.ensures k;
      h = flat_of a.h s.measurements s.states c.flat_part-3.ensures k;
      q = flat_of a.q s.states s.states c.flat_part-4.ensures k;
      r_diag = leading_of a.r_diag s.measurements c.leading.ensures k;
      x = leading_of a.x0 s.states c.leading-2.ensures k;
      s_chol = flat_of a.s0 s.states s.states c.flat_part-5.ensures k;
    })
