-- What contracts say of a section of marks while it is written.
--   mark_all              bits with a one at each place of a list
--   Below                each number of a list is below this
--   up_to                 of the marks that have owners, those whose owner is below k
--   child_end             the owner of a mark of B: the child of the tree edge
--   bridge_marks, marked  B's marks of the vertices below k; the bytes of a section
--   BridgeStep           what the vertex c does to the bits of B
use Rattle.std.specs.Prelude.{◌≡◌, Bool, true, false, ◌&&◌, ℕ, ◌<◌, ltb, length, get_or, set}
use mathlib.Core.List.{List, [], ◌∷◌}
use Rattle.bits.specs.Bits.{pack}
use Rattle.graph.specs.Graph.{Blocks, target}
use Rattle.graph.specs.Search.{Forest, PlaceTest}
use Rattle.graph.specs.Joined.{bridge}
use Rattle.graph.specs.Forest.{child_mark}
use Rattle.forest.specs.Index.{section}

-- from the first to the last
unfoldable pub mark_all : List ℕ → List Bool → List Bool
mark_all [] s = s
mark_all (i ∷ l) s = mark_all l (set s i true)

abbrev pub Below : ℕ → List ℕ → Type 0
Below k list = (c : ℕ) → c < length list → get_or list c 0 < k

unfoldable pub up_to : PlaceTest → (ℕ → ℕ → ℕ) → ℕ → PlaceTest
up_to mark owner k u j = mark u j && ltb (owner u j) k

-- the neighbour, where the search went down by the place, and else the vertex
unfoldable pub child_end : Blocks → Forest → ℕ → ℕ → ℕ
child_end g F u j = elim (child_mark F u j) [ true ↦ target g u j | false ↦ u ]

abbrev pub bridge_marks : Blocks → Forest → ℕ → PlaceTest
bridge_marks g F k = up_to (bridge g) (child_end g F) k

abbrev pub marked : Blocks → PlaceTest → List ℕ
marked g test = pack (section test g)

-- d and b are the bits of the tree edge that leads to c, 0 for a root: both are set where the lowpoint is c's own visit
-- number
pub data BridgeStep (d b low visit : ℕ) (s s' : List Bool) : Type 0 where
  parts : 0 < d → low ≡ visit → s' ≡ set (set s d true) b true → BridgeStep d b low visit s s'
  stays : (0 < d → low ≡ visit → ⊥) → s' ≡ s → BridgeStep d b low visit s s'
