-- Theorem 10, for the forest of any list of starts that covers the vertices: there are as many different heads as roots
-- and half the places with the mark B together.
use Rattle.std.specs.Prelude.{ℕ, ◌/◌, ◌+◌, ◌≡◌}
use Rattle.std.proofs.Common.{arith}
use mathlib.Core.List.{List}
use Rattle.graph.specs.Graph.{Blocks, WellFormed}
use Rattle.graph.specs.Search.{all, search}
use Rattle.graph.specs.Joined.{bridge}
use Rattle.graph.specs.Forest.{roots}
use Rattle.graph.specs.Counts.{count_places, count_edges, looms, sections}
use Rattle.graph.specs.Theorems.{as_many_looms}
use Rattle.graph.specs.Laws.Joined.Spanning.{Covers, search_spans}
use Rattle.graph.specs.Laws.Counts.Sections.{bridges_twice}
use Rattle.graph.proofs.Sections.{sections_edges}

module _ {g : Blocks} (wf : WellFormed g) {starts : List ℕ} (cov : Covers g starts) where
  pub sections_counted : sections g (search g all starts) ≡ roots (search g all starts) + count_places g (bridge g) / 2
  sections_counted = omega (arith, sections_edges wf (search_spans wf.in_range cov), bridges_twice wf)

  -- so every start gives as many: one for each loom, and one more for each bridge
  pub as_many_sections : sections g (search g all starts) ≡ looms g + count_edges g (bridge g)
  as_many_sections = omega (arith, sections_edges wf (search_spans wf.in_range cov), as_many_looms wf cov)
