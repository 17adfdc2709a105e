-- `blocks::count_children` meets its contract: E begins with the index.
use Rattle.queries.proofs.Laws.Marked.{ones_told}
use Rattle.queries.proofs.blocks.count_children.Goals as goal

pub returns : goal.returns
returns c = ones_told c.args.i.now.framed c.args.from c.args.k c.requires c.rank.ensures
