-- `rows_in` meets its contract: a slice that passes the test is just as long as the sizes of its numbers say.
use Rattle.c_slices.proofs.Ways.{whole_of, read}
use Rattle.c_slices.proofs.rows_in.Goals as goal

pub returns : goal.returns
returns c e =
    let w = whole_of _ _ c.args.a.now _ _ e c.size_of.ensures c.size_of-2.ensures in
    read w w.rows w.cols _ c.part_in.ensures
