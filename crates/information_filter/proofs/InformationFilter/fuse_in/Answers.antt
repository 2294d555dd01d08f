-- `fuse_in` meets its contract: the rows that it reads are those of the sensor and the record.
use mathlib.Core.Path.{◌≡◌, sym, ◌∙◌}
use mathlib.Core.Bool.{true, ◌&&◌}
use Rattle.std.specs.Prelude.{Ok}
use Rattle.answer.proofs.Answers.{passed}
use Rattle.steps.proofs.Sizes.{fitted_given}
use Rattle.steps.proofs.Records.{by_sizes}
use Rattle.information_filter.specs.Record.{information_flat, holding, fused_flat, fusible}
use Rattle.information_filter.proofs.Ways.{read-addition}
use Rattle.information_filter.proofs.InformationFilter.fuse_in.Goals as goal

pub returns : goal.returns
unfolding fusible
returns c =
    let f = c.args.self.now in
    let o = c.args.s.now in
    let s = fitted_given _ _ _ _ _ c.fitted.ensures c.in_ok-n.was in
    let both : fusible f.n f.m f.i o.n o.m ≡ true = λ k. s.passed k && passed _ _ (sym c.fits.ensures ∙ c.in_ok-fits.was) k in
    by_sizes (λ t. t) (holding f) f (λ n m. fused_flat n m o.h o.r_inv o.z (information_flat n f.omega f.xi)) both s.states s.measurements
    (λ k. (Ok tt, read-addition f _ c.from_flat-omega.ensures _ _ o.h o.r_inv o.z c.from_flat-h.ensures c.from_flat-w.ensures c.inform.ensures c.to_flat-self.ensures k))
