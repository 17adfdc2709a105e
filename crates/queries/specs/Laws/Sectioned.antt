-- The count of sections on an index that Build writes.
--   ones_edges    B has two ones for each wire that it marks
--   heads_roots   as many different heads as roots and half the ones of B
--   heads_looms   as many as looms and bridges, which no start changes
use Rattle.std.specs.Prelude.{◌≡◌, length}
use Rattle.std.proofs.Math.Path.{sym, ap}
use Rattle.std.proofs.Common.{◌∙◌, arith}
use mathlib.Core.List.{List, map, map-map}
use Prim.Native.Nat.{ℕ, suc, ◌+◌, ◌-◌, ◌*◌, ◌/◌}
use Rattle.graph.specs.Graph.{Blocks}
use Rattle.graph.specs.Search.{Forest, count_up}
use Rattle.graph.specs.Joined.{bridge}
use Rattle.graph.specs.Forest.{head as head_in}
use Rattle.graph.specs.Counts.{count_places, count_edges, looms, different, sections}
use Rattle.graph.specs.Theorems.{bridges_counted}
use Rattle.graph.proofs.Theorems.{sections_counted, as_many_sections}
use Rattle.graph.specs.Laws.Counts.Edges.{edges_same}
use Rattle.graph.proofs.Different.{different_map}
use Rattle.record.specs.Record.{terminals, blocks}
use Rattle.forest.specs.Operations.{roots_in}
use Rattle.queries.specs.View.{section_bit, ones_of_b, place_of}
use Rattle.queries.specs.Operations.{head}
use Rattle.queries.specs.Written.{Written, forest_from}
use Rattle.queries.specs.Table.{parents_on, heads_on}
use Rattle.queries.specs.Laws.Answered.{formed, covered, head_answer}
use Rattle.queries.specs.Laws.Built.{as_many, built_ones}
use Rattle.queries.specs.Laws.Columns.{column_is}
use Rattle.queries.specs.Laws.Edges.{b_at}
use Rattle.queries.specs.Laws.Figured.{parents_roots}

module _ {bytes index : List ℕ} (w : Written bytes index) where
  abbrev g : Blocks
  g = blocks bytes

  abbrev F : Forest
  F = forest_from bytes w.start

  -- the different heads are the sections of the graph: they count from 1 here, and from 0 there
  heads_differ : different (heads_on bytes index) ≡ sections g F
  unfolding sections
  heads_differ =
      ap different
      (column_is (λ v. v) (head bytes index) (terminals bytes) (λ v. suc (head_in g F v)) (λ v t. head_answer w t)
      ∙ (ap (λ (n : ℕ). map (λ v. suc (head_in g F v)) (count_up 0 n)) (sym (as_many w.accepted))
      ∙ sym (map-map suc (head_in g F) (count_up 0 (length g)))))
      ∙ different_map (λ x y e. omega arith) (map (head_in g F) (count_up 0 (length g)))

  ones_places : ones_of_b bytes index ≡ count_places g (bridge g)
  ones_places = ap (λ (x : List ℕ). ones_of_b bytes x) w.is ∙ built_ones w.accepted (w.start - 1)

  pub ones_edges : ones_of_b bytes index ≡ 2 * count_edges g (λ u j. section_bit bytes index 2 (place_of bytes u j))
  ones_edges = omega (arith, ones_places, bridges_counted (formed w), edges_same (λ u j v p. b_at w p))

  pub heads_roots : different (heads_on bytes index) ≡ roots_in (parents_on bytes index) + ones_of_b bytes index / 2
  heads_roots = omega (arith, heads_differ, parents_roots w, ones_places, sections_counted (formed w) (covered w))

  pub heads_looms : different (heads_on bytes index) ≡ looms g + count_edges g (bridge g)
  heads_looms = heads_differ ∙ as_many_sections (formed w) (covered w)
