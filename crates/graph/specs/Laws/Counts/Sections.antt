-- A bridge has the mark B at both of its places.
use Rattle.std.specs.Prelude.{◌≡◌, ◌*◌}
use Rattle.graph.specs.Graph.{Blocks, WellFormed}
use Rattle.graph.specs.Joined.{bridge}
use Rattle.graph.specs.Counts.{count_places, count_edges}
use Rattle.graph.specs.Laws.Bridges.Crossings.{bridge_twin}
use Rattle.graph.specs.Laws.Counts.Edges.{two_places}

pub bridges_twice : {g : Blocks} → WellFormed g → count_places g (bridge g) ≡ 2 * count_edges g (bridge g)
bridges_twice {g} wf = two_places wf (bridge g) (λ u j v p. bridge_twin wf p)
