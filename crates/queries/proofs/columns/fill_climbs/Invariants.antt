-- `columns::fill_climbs` meets its contract.
use Rattle.queries.specs.Filling.{ParentsTo, HeadsTo}
use Rattle.queries.proofs.columns.fill_climbs.Given as goal

abbrev pub invariant-loop-x : goal.invariant-loop-x
invariant-loop-x l =
    let i = l.b.indexed in
    ParentsTo i.layout.bytes.now i.index.now i.layout.n i.layout.m l.x-index l.parents
    × HeadsTo i.layout.bytes.now i.index.now i.layout.n i.layout.m l.x-index l.heads
