-- The statements of specs/Textbook.antt, proved. Assumes nothing.
use Rattle.answer.proofs.Answers.{result_of}
use Rattle.textbook.specs.Arithmetic.{Arithmetic, Exact}
use Rattle.textbook.specs.Textbook.{AtRounded, InExact, Textbook}
use Rattle.textbook.proofs.Inverse.{told-inverse}
use Rattle.textbook.proofs.Factor.{factor-lower, factor-product, factor-whole}
use Rattle.textbook.proofs.Downdate.{downdated}
use Rattle.textbook.proofs.Information.{informs_start, informs_predict, informs_update, informs_state, informs_covariance}
use Rattle.textbook.proofs.Rounded.{inv_is, cholesky_is, rotated_is}
use Rattle.textbook.proofs.RoundedFilters as Rounded
use Rattle.textbook.proofs.Binary.{binary-exact}
use Rattle.textbook.proofs.Example.{example}

at_rounded : AtRounded
at_rounded = record {
  inverse = inv_is;
  cholesky-factor = cholesky_is;
  downdate = rotated_is;
  linear-predict = Rounded.linear-predict_is;
  linear-update = Rounded.linear-update_is;
  information-start = Rounded.start_is;
  information-state = Rounded.state-answered;
  information-covariance = Rounded.covariance-answered;
  information-predict = Rounded.information-predict_is;
  information-update = Rounded.information-update_is;
}

in_exact : (N : Arithmetic) → Exact N → InExact N
in_exact N X = record {
  inverse = λ n A B e. result_of (told-inverse N X n A) e;
  cholesky-factor =
      λ n A L e. record { lower = factor-lower N X n A L e; below = factor-product N X n A L e; everywhere = factor-whole N X n A L e };
  downdate = λ n L v v' low nonzero e. downdated N X n L v low nonzero v' e;
  information-start = λ n e o a. informs_start N X n e o a;
  information-predict = λ n i A B Q u e o o' p a. informs_predict N X n e o i A B Q u p o' a;
  information-update = λ n m H R W z y e e' o p a b. informs_update N X n e o m H R W z p y e' a b;
  information-state = λ n e o x p a. informs_state N X n e o x p a;
  information-covariance = λ n e o P p a. informs_covariance N X n e o P p a;
}

pub statements : Textbook
statements = record { at_rounded = at_rounded; in_exact = in_exact; exact = binary-exact; example = example }
