-- The blocks turned round: a second row, cut by the same starts, whose part v lists the vertices whose blocks have v,
-- in order, each as often as its block has v.
use Rattle.std.specs.Prelude.{ℕ, ◌+◌, ◌≤◌, ◌<◌, ◌≡◌, false, length, get_or, take}
use mathlib.Core.List.{List, sum}
use Rattle.graph.specs.Graph.{Blocks, block, mentions}
use Rattle.adjacency.specs.Arrays.{cut, Divided, Holds, up_to}
use Rattle.adjacency.specs.Places.{any_place, stray, one_sided}

-- the cells of a list, added up
abbrev pub total : List ℕ → ℕ
total l = sum ◌+◌ 0 l

-- `next` has for each vertex the place of its part that comes next: part v up to there has w as often as w's block up
-- to place p has v
pub record Turned (starts nbrs reverse next : List ℕ) (p : ℕ) : Type 0 where
  pub divided : Divided starts nbrs
  pub size : length reverse ≡ length nbrs
  pub cells : length next + 1 ≡ length starts
  pub near : (v : ℕ) → v + 1 < length starts
      → (get_or starts v 0 ≤ get_or next v 0) × (get_or next v 0 ≤ get_or starts (v + 1) 0)
  pub same : (v w : ℕ) → v + 1 < length starts
      → mentions w (up_to starts reverse v (get_or next v 0)) ≡ mentions v (up_to starts nbrs w p)

-- the same at a place p of u's block: as many cells of the parts are passed as places of the blocks; what stands before
-- p is a vertex other than the block's own, and no part falls, or goes beyond u
pub record Turning (starts nbrs reverse next : List ℕ) (u p : ℕ) : Type 0 where
  pub turned : Turned starts nbrs reverse next p
  pub spent : total next ≡ total (take (length next) starts) + p
  pub others : (w v : ℕ) → 0 < mentions v (up_to starts nbrs w p) → (v + 1 < length starts) × (v ≡ w → ⊥)
  pub rising : (v q : ℕ) → Holds starts v q → q + 1 < get_or next v 0 → get_or reverse q 0 ≤ get_or reverse (q + 1) 0
  pub below : (v q : ℕ) → Holds starts v q → q < get_or next v 0 → get_or reverse q 0 ≤ u

-- the blocks before u are turned round
abbrev pub TurnedBefore : List ℕ → List ℕ → List ℕ → List ℕ → ℕ → Type 0
TurnedBefore starts nbrs reverse next u = Turning starts nbrs reverse next u (get_or starts u 0)

-- the parts are the blocks of some row, turned round: they hold vertices, and part x has v as often as v's block has x
pub record Reversed (starts reverse : List ℕ) : Type 0 where
  pub row : List ℕ
  pub size : length row ≡ length reverse
  pub known : (v q : ℕ) → Holds starts v q → get_or reverse q 0 + 1 < length starts
  pub same : (v x : ℕ) → v + 1 < length starts
      → mentions x (block (cut starts row) v) ≡ mentions v (block (cut starts reverse) x)

-- `next` is at the start of each part
pub record AtStarts (starts next : List ℕ) : Type 0 where
  pub cells : length next + 1 ≡ length starts
  pub begins : (v : ℕ) → v + 1 < length starts → get_or next v 0 ≡ get_or starts v 0

-- the parts before u's, turned round once more, are found in the parts again
abbrev pub Matching : List ℕ → List ℕ → List ℕ → ℕ → Type 0
Matching starts reverse next u = Turned starts reverse reverse next (get_or starts u 0)

-- rules 6 and 8 are kept
pub record Kept (g : Blocks) : Type 0 where
  pub no_stray : any_place (stray g) g ≡ false
  pub no_one_sided : any_place (one_sided g) g ≡ false

-- what the parts of such a graph are: each two vertices stand equally often in each other's part, and no part falls
-- from place to place
pub record Orderly (starts reverse : List ℕ) : Type 0 where
  pub balanced : (v w : ℕ) → v + 1 < length starts
      → mentions w (block (cut starts reverse) v) ≡ mentions v (block (cut starts reverse) w)
  pub rising : (v q : ℕ) → Holds starts v q → Holds starts v (q + 1) → get_or reverse q 0 ≤ get_or reverse (q + 1) 0
