-- `blocks::nth_child` meets its contract: E begins with the index.
use Rattle.queries.proofs.Laws.Marked.{marks_room, one_told}
use Rattle.queries.proofs.blocks.nth_child.Goals as goal

pub nth_from-requires : goal.nth_from-requires
nth_from-requires c =
    let (f, l) = marks_room c.args.i.now.framed c.args.from c.args.k c.requires.0 in
    (c.requires.1, f, l)

pub returns : goal.returns
returns c = one_told c.args.i.now.framed c.args.from c.args.k c.requires.0 c.args.j c.nth_from.ensures
