-- What contracts say of the lowpoints, and of the ways back that are found beside them, for any forest of the graph.
--   BackBit   the bit of the way back from c, at a position before j, on a side h that lists it
--   Unmet     no mention of the parent of c stands before position j
--   Passed    before position j: that bit, or 0 where there is none
--   LowStep   what one place does to the least number and to the way back
--   LowAt     the places of c before position j are looked at
--   Lifting   the lowpoints, in which the children of visit number k or more count
--   Searches, Lifts   for some forest
--   OwnLow, Lowers, LiftsOne   what one function of the lowpoints does, for every forest
use Rattle.std.specs.Prelude.{◌≡◌, None, Some, MatchOption, List, ℕ, suc, ◌+◌, ◌*◌, ◌<◌, min, length, get_or}
use Rattle.graph.specs.Graph.{Blocks, block, target}
use Rattle.graph.specs.Search.{Forest}
use Rattle.graph.specs.Forest.{parent}
use Rattle.graph.specs.Laws.Edges.Marks.{Back}
use Rattle.graph.specs.Laws.Bridges.Lowpoints.{Lows}
use Rattle.graph.specs.Laws.Bridges.Sweep.{Least}
use Rattle.forest.specs.Steps.{Searched}
use Rattle.forest.specs.Laws.Sections.{place_bit}
use Rattle.forest.specs.declared.lows.Low.{Low}

-- ---- one vertex

-- the places of h, in which the way back stands; F goes down by places of g
pub record BackBit (g h : Blocks) (F : Forest) (c j bit : ℕ) : Type 0 where
  pub slot : ℕ
  pub before : slot < j
  pub is_back : Back g h F c slot
  pub is : bit ≡ place_bit h c slot

abbrev pub Unmet : Blocks → Forest → ℕ → ℕ → Type 0
Unmet h F c j = (i : ℕ) → i < j → parent F c ≡ suc (target h c i) → ⊥

pub data Passed (g h : Blocks) (F : Forest) (c j bit : ℕ) : Type 0 where
  unmet : bit ≡ 0 → Unmet h F c j → Passed g h F c j bit
  met : BackBit g h F c j bit → Passed g h F c j bit

-- v stands at place p, its visit cell is x, and the parent's cell of c is `up`: the first mention of the parent is the
-- way back, and any other place counts
pub data LowStep (c up p v x : ℕ) (was is : Low) : Type 0 where
  way_back : v + 1 ≡ up → was.back ≡ None → is.low ≡ was.low → is.back ≡ Some (p + c + 1) → LowStep c up p v x was is
  counts : (v + 1 ≡ up → was.back ≡ None → ⊥) → is.low ≡ min was.low x → is.back ≡ was.back → LowStep c up p v x was is

-- `low` is 1 + the least number so far
pub record LowAt (g : Blocks) (F : Forest) (c j : ℕ) (own : Low) : Type 0 where
  pub least_number : ℕ
  pub is_low : own.low ≡ suc least_number
  pub least : Least g F c j least_number
  pub passed : MatchOption own.back (Unmet g F c j) (BackBit g g F c j)

-- ---- all vertices

-- the last part of the work slice is 1 + the lowpoints, and the bits of the ways back stand where the next places stood
pub record Lifting (g : Blocks) (F : Forest) (n s : ℕ) (work : List ℕ) (k : ℕ) : Type 0 where
  pub searched : Searched g F n s work
  pub low_of : ℕ → ℕ
  pub low_cells : (v : ℕ) → v < n → get_or work (5 * s + v) 0 ≡ suc (low_of v)
  pub lows : Lows g F k low_of
  pub backs : (c : ℕ) → c < n → Passed g g F c (length (block g c)) (get_or work c 0)

pub record Searches (g : Blocks) (n s : ℕ) (work : List ℕ) : Type 0 where
  pub forest : Forest
  pub searched : Searched g forest n s work

pub record Lifts (g : Blocks) (n s : ℕ) (work : List ℕ) (k : ℕ) : Type 0 where
  pub forest : Forest
  pub lifting : Lifting g forest n s work k

-- ---- for every forest

-- the places of c are looked at
abbrev pub OwnLow : Blocks → ℕ → ℕ → List ℕ → ℕ → Low → Type 0
OwnLow g n s work c own = (F : Forest) → Searched g F n s work → LowAt g F c (length (block g c)) own

-- the lowpoints are found, in which the children of visit number k or more count
abbrev pub Lowers : Blocks → ℕ → ℕ → List ℕ → List ℕ → ℕ → Type 0
Lowers g n s work next k = (F : Forest) → Searched g F n s work → Lifting g F n s next k

-- the child of visit number k counts too
abbrev pub LiftsOne : Blocks → ℕ → ℕ → List ℕ → List ℕ → ℕ → Type 0
LiftsOne g n s work next k = (F : Forest) → Lifting g F n s work (k + 1) → Lifting g F n s next k
