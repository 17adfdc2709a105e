-- The blocks of an accepted record are a well_formed graph.
use Rattle.std.specs.Prelude.{List, ℕ}
use Rattle.graph.specs.Graph.{WellFormed}
use Rattle.adjacency.specs.Laws.Kept.{well_formed}
use Rattle.record.specs.Record.{blocks}
use Rattle.record.specs.Operations.{Accepted}
use Rattle.record.specs.Laws.First.{checked}

pub accepted_well_formed : {bytes : List ℕ} → Accepted bytes → WellFormed (blocks bytes)
accepted_well_formed {bytes} accepted =
    let c = checked accepted in
    well_formed (blocks bytes) c.no_stray c.two_sided
