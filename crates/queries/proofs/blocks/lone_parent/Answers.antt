-- `blocks::lone_parent` meets its contract: P is the second section.
use Rattle.queries.proofs.Laws.Marked.{marks_after, lone_told}
use Rattle.queries.proofs.blocks.lone_parent.Goals as goal

pub lone_from-requires : goal.lone_from-requires
lone_from-requires c =
    let (e, l) = c.mark_bytes.ensures in
    marks_after c.args.i.now.framed c.args.from c.args.k c.requires e l

pub returns : goal.returns
returns c =
    let e = c.mark_bytes.ensures.0 in
    lone_told c.args.i.now.framed c.args.from c.args.k c.requires e c.lone_from.result c.lone_from.ensures
