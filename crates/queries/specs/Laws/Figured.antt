-- The loop figure beside an index that Build writes, and beside a table.
--   loops_marked   it counts the wires that have no mark in E at either end
--   table_long     a table has a parent for each terminal
--   parents_roots  the roots are the zeros among what Parent answers
--   table_loops    so the figure follows from a table's parents
--   table_left     what a call of Table leaves that refuses nothing
use Rattle.std.specs.Prelude.{◌≡◌, List, length}
use Rattle.std.proofs.Math.Path.{sym}
use Rattle.std.proofs.Common.{◌∙◌}
use Prim.Native.Nat.{ℕ, suc, ◌+◌, ◌-◌, ◌<◌}
use native.Mathlib.Omega.{arith}
use Rattle.std.proofs.Math.ListN.{get_or}
use Rattle.graph.specs.Graph.{Blocks}
use Rattle.graph.specs.Search.{Forest}
use Rattle.graph.specs.Forest.{parent as parent_in, roots}
use Rattle.graph.specs.Counts.{count_edges, at_neither}
use Rattle.graph.specs.Laws.Places.CountUp.{length_each}
use Rattle.graph.specs.Laws.Joined.Spanning.{search_spans}
use Rattle.graph.specs.Laws.Counts.Edges.{edges_neither}
use Rattle.record.specs.Record.{terminals, wires, blocks}
use Rattle.record.specs.Rules.{Rule, first_broken}
use Rattle.record.specs.Answers.{Answer, answered}
use Rattle.record.specs.Operations.{Accepted}
use Rattle.record.specs.Laws.First.{both_kept, check_numbered}
use Rattle.record.specs.Laws.Told.{untold_back, buffer_written}
use Rattle.forest.specs.Operations.{loops, roots_in}
use Rattle.forest.specs.Laws.Figures.{roots_from, loops_whole, roots_in_lem}
use Rattle.forest.proofs.Laws.Loops.{loops_edges}
use Rattle.queries.specs.View.{section_bit, place_of}
use Rattle.queries.specs.Answers.{or_zero}
use Rattle.queries.specs.Operations.{parent}
use Rattle.queries.specs.Written.{Written, forest_from, Terminal}
use Rattle.queries.specs.Table.{Columns, answers_of, parents_on, table_on, table_of, table_rules, table, tabled}
use Rattle.queries.specs.Table.{TableDone}
use Rattle.queries.specs.Laws.Answered.{formed, covered, parent_answer}
use Rattle.queries.specs.Laws.Built.{as_many}
use Rattle.queries.specs.Laws.Columns.{cell_told, or_unless}
use Rattle.queries.specs.Laws.Edges.{e_at}

module _ {bytes index : List ℕ} (w : Written bytes index) where
  abbrev g : Blocks
  g = blocks bytes

  abbrev F : Forest
  F = forest_from bytes w.start

  pub loops_marked : loops bytes ≡ count_edges g (at_neither g (λ u j. section_bit bytes index 0 (place_of bytes u j)))
  loops_marked =
      loops_edges w.accepted w.start w.taken
      ∙ sym (edges_neither (formed w) (λ u j v p. e_at w p))

  pub table_long : length (table_on bytes index).parents ≡ terminals bytes
  unfolding table_on answers_of
  table_long = length_each _ 0 (terminals bytes)

  pub parents_roots : roots_in (parents_on bytes index) ≡ roots F
  unfolding table_on
  parents_roots =
      let many = as_many w.accepted in
      roots_in_lem (search_spans (formed w).in_range (covered w)) (parents_on bytes index) (table_long ∙ sym many)
      (λ v h. cell v (omega arith))
    where
      cell : (v : ℕ) → v < terminals bytes → get_or (parents_on bytes index) v 0 ≡ parent_in F v
      cell v h =
          let t : Terminal bytes (suc v) = record { some = omega arith; upto = omega arith } in
          let z : suc v - 1 ≡ v = omega arith in
          rw z at (cell_told or_zero (parent bytes index) (terminals bytes) t (parent_answer w t))
          ∙ or_unless (parent_in F v)

  pub table_loops : terminals bytes + loops bytes ≡ wires bytes + roots_in (table_on bytes index).parents
  unfolding table_on
  table_loops =
      let r = roots_from w.accepted w.start w.taken in
      let l = loops_whole w.accepted in
      let t = parents_roots in
      omega arith

-- where Table refuses nothing, the record is accepted, and the lists are those of its start
pub table_left : {bytes : List ℕ} {start : ℕ} {work : List ℕ} {before after : Columns} {r : Answer (Unit {0})}
    → TableDone bytes start work before after r → r ≡ answered tt → (Accepted bytes) × (after ≡ table_of bytes start)
unfolding table tabled table_rules
table_left {bytes} {start} {work} {before} d e =
    let rules : List Rule = table_rules bytes start work before in
    let k : first_broken rules ≡ 0 = (untold_back (first_broken rules) tt (sym e ∙ d.answers)).0 in
    let (checked, _) = both_kept (check_numbered bytes) _ k in
    (record { unbroken = checked }, d.leaves ∙ sym (buffer_written rules (table_of bytes start) before k))
