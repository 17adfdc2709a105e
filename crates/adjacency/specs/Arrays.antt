-- A graph in two arrays: where the block of each vertex starts, and the neighbours of all blocks in a row. A place is a
-- position in that row.
--   cut starts nbrs      the graph that the two arrays hold: the parts of the row between one start and the next
--   Divided starts nbrs  the starts rise from 0 to the end of the row
--   Arrays starts nbrs   and each neighbour is a vertex
--   Holds starts u p     place p is in u's block
--   up_to starts nbrs u p what a loop over the places has passed of u's block
use Rattle.std.specs.Prelude.{ℕ, ◌+◌, ◌-◌, ◌≤◌, ◌<◌, ◌≡◌, List, [], ◌∷◌, length, get_or, take, drop}
use Rattle.graph.specs.Graph.{Blocks, block}

-- the graph: the parts of a list between one start and the next
unfoldable pub cut : List ℕ → List ℕ → Blocks
cut [] l = []
cut (a ∷ []) l = []
cut (a ∷ b ∷ starts) l = take (b - a) (drop a l) ∷ cut (b ∷ starts) l

-- the starts rise from 0 to the end of the row, with at most 4,096 blocks and 32,768 neighbours
pub record Divided (starts nbrs : List ℕ) : Type 0 where
  pub some : 0 < length starts
  pub first : get_or starts 0 0 ≡ 0
  pub rising : (u : ℕ) → u + 1 < length starts → get_or starts u 0 ≤ get_or starts (u + 1) 0
  pub last : get_or starts (length starts - 1) 0 ≡ length nbrs
  pub few_blocks : length starts ≤ 4097
  pub few_places : length nbrs ≤ 32768

-- and each neighbour is a vertex: what rule 6 leaves
pub record Arrays (starts nbrs : List ℕ) : Type 0 where
  pub divided : Divided starts nbrs
  pub known : (p : ℕ) → p < length nbrs → get_or nbrs p 0 + 1 < length starts

-- place p is in u's block
pub record Holds (starts : List ℕ) (u p : ℕ) : Type 0 where
  pub inside : u + 1 < length starts
  pub low : get_or starts u 0 ≤ p
  pub high : p < get_or starts (u + 1) 0

-- the part of u's block that stands before place p
unfoldable pub up_to : List ℕ → List ℕ → ℕ → ℕ → List ℕ
up_to starts nbrs u p = take (p - get_or starts u 0) (block (cut starts nbrs) u)
