-- `overlap` meets its contract: the laws of a search by a range. Assumes nothing.
use Rattle.pick_search.specs.SearchLaws.{overlap_contiguous, overlap_takable, overlap_found}
use Rattle.pick_search.proofs.overlap.Goals as goal

pub passed-lo-requires : goal.passed-lo-requires
passed-lo-requires c =
    let h = c.args.s.now in
    (c.requires.0, overlap_contiguous h.files c.requires.0.files c.args.q c.requires.1 c.widest-w.result c.widest-w.ensures)

pub taken-requires : goal.taken-requires
taken-requires c =
    let h = c.args.s.now in
    (c.requires.0, overlap_takable h.files c.requires.0.files c.args.q c.requires.1 c.widest-w.result c.widest-w.ensures c.passed-lo.result c.passed-lo.ensures c.nothing_at-none.result c.nothing_at-none.ensures)

pub returns : goal.returns
returns c =
    let h = c.args.s.now in
    overlap_found h.files c.requires.0.files c.args.q c.requires.1 c.widest-w.result c.widest-w.ensures c.passed-lo.result c.passed-lo.ensures c.nothing_at-none.result c.nothing_at-none.ensures c.taken.result c.taken.ensures
