-- What the loop of `text` keeps: the page's length.
use Rattle.std.proofs.Common.{◌≡◌, length}
use Rattle.chart.proofs.page.Page.text.Given as goal

abbrev pub invariant-loop-b : goal.invariant-loop-b
invariant-loop-b l = length l.self.bytes.now ≡ length l.initial.self.bytes.now
