-- `index::write_index` meets its contract.
use Rattle.forest.proofs.Laws.Fronts.{index_from}
use Rattle.forest.proofs.index.write_index.Goals as goal

pub returns : goal.returns
returns c =
    index_from c.args.g.now c.args.first
    (c.write_sections.ensures _ (c.lowpoints.ensures _ c.search.ensures))
