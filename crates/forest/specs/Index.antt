-- The index of a graph (document 01, "Forest"): its sections E, P, B and visit numbers, and their bytes.
use Rattle.std.specs.Prelude.{Bool, false, List, [], ◌∷◌, ◌++◌, map, ℕ, suc, ◌+◌, ◌*◌, ◌/◌, length}
use Rattle.bits.specs.Bits.{pack}
use Rattle.graph.specs.Graph.{Blocks}
use Rattle.graph.specs.Search.{Forest, PlaceTest, count_up, forest}
use Rattle.graph.specs.Joined.{bridge}
use Rattle.graph.specs.Forest.{number, child_mark, parent_mark}
use Rattle.record.specs.Record.{lay_out, field_bits}

-- a yes or no for each place of the blocks; the first block is vertex u's
unfoldable pub marks_from : PlaceTest → ℕ → Blocks → List (List Bool)
marks_from test u [] = []
marks_from test u (b ∷ g) = map (test u) (count_up 0 (length b)) ∷ marks_from test (suc u) g

-- marks laid out as D is: for each vertex a zero, and then the marks of its block
unfoldable pub section : PlaceTest → Blocks → List Bool
section test g = lay_out false (marks_from test 0 g)

-- the four sections, for the forest F of the graph
unfoldable pub section_e : Blocks → Forest → List Bool
section_e g F = section (child_mark F) g

unfoldable pub section_p : Blocks → Forest → List Bool
section_p g F = section (parent_mark g g F) g

unfoldable pub section_b : Blocks → List Bool
section_b g = section (bridge g) g

-- the visit numbers less 1, which count from 0
unfoldable pub numbers : Blocks → Forest → List ℕ
numbers g F = map (number F) (count_up 0 (length g))

-- each section starts on a byte of its own
unfoldable pub index_by : Blocks → Forest → List ℕ
index_by g F = pack (section_e g F) ++ (pack (section_p g F) ++ (pack (section_b g) ++ pack (field_bits (numbers g F))))

-- the index of the search that begins at the vertex s
abbrev pub index_of : Blocks → ℕ → List ℕ
index_of g s = index_by g (forest g s)

-- the bytes of a section of marks, and of the visit numbers
unfoldable pub mark_bytes : ℕ → ℕ → ℕ
mark_bytes n m = (n + 2 * m + 7) / 8

unfoldable pub number_bytes : ℕ → ℕ
number_bytes n = (12 * n + 7) / 8

-- the length that n and m give
unfoldable pub index_length : ℕ → ℕ → ℕ
index_length n m = 3 * mark_bytes n m + number_bytes n
