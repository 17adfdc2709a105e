-- `columns::fill` meets its contract.
use Rattle.queries.proofs.Laws.Tabling.{built_ready, filled}
use Rattle.queries.proofs.columns.fill.Goals as goal

pub returns : goal.returns
returns c =
    let (parents, heads) = c.fill_climbs.ensures in
    filled (built_ready c.args.b.now) c.fill_visits.ensures parents c.fill_counts.ensures heads
