-- The wires outside the forest, which have a child mark at neither end: with m wires, m and the roots are as many as n
-- and those wires.
use Rattle.std.specs.Prelude.{ℕ, ◌+◌, ◌*◌, ◌≡◌, refl, length}
use mathlib.Core.List.{flatten}
use Rattle.std.proofs.Common.{arith}
use Rattle.graph.specs.Graph.{Blocks, WellFormed}
use Rattle.graph.specs.Search.{Forest, PlaceTest}
use Rattle.graph.specs.Forest.{roots, child_mark}
use Rattle.graph.specs.Counts.{count_places, count_edges, at_neither}
use Rattle.graph.specs.Laws.Joined.Spanning.{Spanning, forest_length}
use Rattle.graph.specs.Laws.Counts.Places.{over_places}
use Rattle.graph.specs.Laws.Counts.Entries.{entries_parted}
use Rattle.graph.specs.Laws.Counts.Edges.{two_places, neither_twin}
use Rattle.graph.specs.Laws.Counts.Parted.{over_parted}

pub roots_and_edges : {g : Blocks} → WellFormed g → {F : Forest} → Spanning g F → (m : ℕ)
    → length (flatten g) ≡ 2 * m → m + roots F ≡ length g + count_edges g (at_neither g (child_mark F))
unfolding count_places
roots_and_edges {g} wf {F} span m e =
    let outside : PlaceTest = at_neither g (child_mark F) in
    let a = over_places g in
    let b = over_parted wf span (λ u j. 1) (λ u j v p. refl) in
    let c = two_places wf outside (neither_twin wf (child_mark F)) in
    let d = entries_parted F in
    let f = forest_length span in
    omega arith
