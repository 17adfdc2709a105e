-- What contracts inside this crate say of the work slice and of the search. The slice has six parts of s numbers, of
-- which n each are used: the places that come next (in the end the bits of the ways back), 1 + the parents, 1 + the
-- visit numbers, the vertices in order of their visits, the bits of the places by which they were entered, and 1 + the
-- lowpoints. A cell of a root, where it would tell of a parent, is 0.
--   stride              how far one part stands behind the other: not n itself, so that parts of 4,096 cells don't
--                       share cache sets
--   Room                the slice has room for the parts
--   down_bit             the bit of the place by which a vertex was entered
--   cells_of             the parts as the arrays of a search program
--   Tied                the cells stand for the next positions and the slots
--   Searching           where the search stands, for a list of roots and the starts that are still to try
--   Begun, Entering, PassedTo   what one function of the search does
--   Searched            the search is done: the parts are the forest's
use Rattle.std.specs.Prelude.{◌≡◌, List, ℕ, zero, suc, ◌+◌, ◌*◌, ◌/◌, ◌≤◌, ◌<◌, length, get_or}
use Rattle.graph.specs.Graph.{Blocks}
use Rattle.graph.specs.Search.{Forest, all, search}
use Rattle.graph.specs.Forest.{number, vertex_at, parent}
use Rattle.graph.specs.Laws.Tree.Climbs.{slot}
use Rattle.graph.specs.Laws.Joined.Spanning.{Spanning}
use Rattle.graph.specs.Laws.Bridges.Stores.{Stored, Agree}
use Rattle.graph.specs.Laws.Loop.Arrays.{Cells}
use Rattle.graph.specs.Laws.Loop.Invariant.{Loop}
use Rattle.forest.specs.Laws.Sections.{place_bit}

abbrev pub stride : ℕ → ℕ
stride n = n + n / 16

-- the parts have room: n is a number of vertices, and 6·s numbers are there
pub record Room (n s : ℕ) (work : List ℕ) : Type 0 where
  pub some : 0 < n
  pub few : n ≤ 4096
  pub apart : n ≤ s
  pub near : s ≤ 4352
  pub size : 6 * s ≤ length work

-- ---- the search

-- the bit of the place (u, j) by which a vertex was entered; p is 1 + u, or 0 for a root
unfoldable pub down_bit : Blocks → ℕ → ℕ → ℕ
down_bit g zero j = 0
down_bit g (suc u) j = place_bit g u j

abbrev pub cells_of : ℕ → (ℕ → ℕ) → (ℕ → ℕ) → List ℕ → Cells
cells_of s next_of slot_of work = record {
  visits = λ v. get_or work (2 * s + v) 0;
  parents = λ v. get_or work (s + v) 0;
  slots = slot_of;
  nexts = next_of;
  order = λ k. get_or work (3 * s + k) 0;
}

-- a vertex's next place is its start and the next position, which is 0 before it is visited
pub record Tied (g : Blocks) (starts : List ℕ) (n s : ℕ) (work : List ℕ) (next_of slot_of : ℕ → ℕ) : Type 0 where
  pub room : Room n s work
  pub nexts : (v : ℕ) → v < n → get_or work v 0 ≡ get_or starts v 0 + next_of v
  pub fresh : (v : ℕ) → v < n → get_or work (2 * s + v) 0 ≡ 0 → next_of v ≡ 0
  pub downs : (v : ℕ) → v < n → (get_or work (2 * s + v) 0 ≡ 0 → ⊥)
      → get_or work (4 * s + v) 0 ≡ down_bit g (get_or work (s + v) 0) (slot_of v)

-- from here the search of g from these roots ends in its forest; `todo` are the starts that are still to try, cur is 0
-- or 1 + the vertex at hand, and k vertices are entered
pub record Searching (g : Blocks) (roots todo starts : List ℕ) (n s : ℕ) (work : List ℕ) (left cur k : ℕ) : Type 0 where
  pub next_of : ℕ → ℕ
  pub slot_of : ℕ → ℕ
  pub tied : Tied g starts n s work next_of slot_of
  pub loop : Loop g (search g all roots) left todo cur k (cells_of s next_of slot_of work)

-- ---- what one function does

-- the vertices are unvisited, and the place that comes next for each is its start
pub record Begun (starts : List ℕ) (n s : ℕ) (work : List ℕ) : Type 0 where
  pub room : Room n s work
  pub unvisited : (x : ℕ) → x < n → get_or work (2 * s + x) 0 ≡ 0
  pub at_start : (x : ℕ) → x < n → get_or work x 0 ≡ get_or starts x 0

-- v is entered as number k under p (0, or 1 + its parent), by the place of this bit
pub record Entering (n s : ℕ) (work next : List ℕ) (v k p bit : ℕ) : Type 0 where
  pub visits_set : Stored n (λ x. get_or work (2 * s + x) 0) (λ x. get_or next (2 * s + x) 0) v (suc k)
  pub parents_set : Stored n (λ x. get_or work (s + x) 0) (λ x. get_or next (s + x) 0) v p
  pub downs_set : Stored n (λ x. get_or work (4 * s + x) 0) (λ x. get_or next (4 * s + x) 0) v bit
  pub order_set : Stored n (λ x. get_or work (3 * s + x) 0) (λ x. get_or next (3 * s + x) 0) k v
  pub nexts_same : Agree n (λ x. get_or work x 0) (λ x. get_or next x 0)
  pub same_size : length next ≡ length work

-- the places from `from` up to p lead to visited vertices
abbrev pub AllVisited : List ℕ → ℕ → List ℕ → ℕ → ℕ → Type 0
AllVisited nbrs s work from p =
    (q : ℕ) → from ≤ q → q < p → get_or work (2 * s + get_or nbrs q 0) 0 ≡ 0 → ⊥

-- and p, where it is before `end`, to an unvisited one
pub record PassedTo (nbrs : List ℕ) (s : ℕ) (work : List ℕ) (from end p : ℕ) : Type 0 where
  pub low : from ≤ p
  pub visited : AllVisited nbrs s work from p
  pub stops : p < end → get_or work (2 * s + get_or nbrs p 0) 0 ≡ 0

-- ---- the search is done

-- the parts are those of F, a forest of the whole graph
pub record Searched (g : Blocks) (F : Forest) (n s : ℕ) (work : List ℕ) : Type 0 where
  pub spans : Spanning g F
  pub room : Room n s work
  pub visits : (v : ℕ) → v < n → get_or work (2 * s + v) 0 ≡ suc (number F v)
  pub parents : (v : ℕ) → v < n → get_or work (s + v) 0 ≡ parent F v
  pub order : (k : ℕ) → k < n → get_or work (3 * s + k) 0 ≡ vertex_at F k
  pub downs : (v : ℕ) → v < n → get_or work (4 * s + v) 0 ≡ down_bit g (parent F v) (slot F v)
