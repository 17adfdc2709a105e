-- More of the loop figure of an accepted record.
--   loops_edges    it is the number of wires with no mark E at either end, for every start
--   loops_few      it is below the number of wires, or 0 where there are none; no_loops: in the empty record
use Rattle.std.specs.Prelude.{◌≡◌, false, ℕ, ◌-◌, ◌≤◌}
use mathlib.Core.List.{List}
use Rattle.std.proofs.Math.Decide.{dec_lt}
use native.Mathlib.Omega.{arith}
use Rattle.graph.specs.Graph.{Blocks}
use Rattle.graph.specs.Search.{forest}
use Rattle.graph.specs.Forest.{child_mark}
use Rattle.graph.specs.Counts.{count_edges, at_neither}
use Rattle.graph.specs.Laws.Joined.Spanning.{search_spans}
use Rattle.graph.specs.Laws.Counts.Roots.{roots_most}
use Rattle.graph.specs.Theorems.{edges_outside, some_no_root}
use Rattle.record.specs.Record.{terminals, wires, blocks}
use Rattle.record.specs.Operations.{Accepted}
use Rattle.forest.specs.Operations.{no_start, loops}
use Rattle.forest.specs.Laws.Figures.{formed, as_many, all_places, first_covered, covered, roots_from, loops_whole}

module _ {bytes : List ℕ} (a : Accepted bytes) where
  abbrev g : Blocks
  g = blocks bytes

  pub loops_edges : (start : ℕ) → no_start (terminals bytes) start ≡ false
      → loops bytes ≡ count_edges g (at_neither g (child_mark (forest g (start - 1))))
  loops_edges start taken =
      let e = edges_outside (formed a) (covered a start taken) (wires bytes) (all_places a) in
      let r = roots_from a start taken in
      let w = loops_whole a in
      let k = as_many a in
      omega arith

  -- where there are wires, some vertex is no root
  pub loops_few : loops bytes ≤ wires bytes - 1
  loops_few =
      let w = loops_whole a in
      let k = as_many a in
      let p = all_places a in
      let most = roots_most (search_spans (formed a).in_range (first_covered a)) in
      elim (dec_lt 0 (wires bytes)) [
        | yes h ↦ let f = some_no_root (formed a) (first_covered a) (omega arith) in omega arith
        | no h ↦ omega arith
      ]

  pub no_loops : terminals bytes ≡ 0 → loops bytes ≡ 0
  no_loops z =
      let w = loops_whole a in
      let few = loops_few in
      let k = as_many a in
      let most = roots_most (search_spans (formed a).in_range (first_covered a)) in
      omega arith
