-- The parts of a picture stand one after another, and each has room.
use Rattle.std.proofs.Common.{take, arith}
use lib.Seq.{length-take-le}
use borrow.Author.Rules.{rules}
use Rattle.picture.proofs.Buffer.{stored_both}
use Rattle.picture.proofs.put_picture.Goals as goal

pub returns : goal.returns
returns c =
    let d = c.draw_sheet-n in
    let whole = stored_both c.store-a.ensures (stored_both c.store-b.ensures c.store.ensures) in
    record {
      inside = take d.result d.new.page;
      element = whole;
      fits = omega (arith, c.store.ensures.next, c.store-b.ensures.next, c.store-a.ensures.next, length-take-le d.result d.new.page (search rules), d.ensures, c.requires.room);
    }
