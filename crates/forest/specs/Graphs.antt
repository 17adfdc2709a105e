-- What contracts say over a graph in two arrays.
--   held                            the graph that they hold
--   SearchingIn                     where the search of that graph stands
--   Underway                        the same, for some roots, starts that are still to try, and steps that are left
--   StartTried, NextTried, StepTaken   what one function of the search does
--   IsLeft                          something is left to do
--   Holds                           a buffer is the index, for every forest that the work slice shows
use Rattle.std.specs.Prelude.{◌≡◌, List, ◌∷◌, ℕ, suc, ◌-◌, ◌<◌}
use Rattle.graph.specs.Graph.{Blocks}
use Rattle.graph.specs.Search.{Forest, count_up}
use Rattle.adjacency.specs.Arrays.{cut}
use Rattle.forest.specs.Index.{index_by}
use Rattle.forest.specs.Steps.{Searching}
use Rattle.forest.specs.Lows.{Lifting}
use Rattle.forest.specs.declared.graphs.Graph.{Graph}
use Rattle.forest.specs.declared.search.Hand.{Hand}
use Rattle.forest.specs.declared.search.At.{At}

abbrev pub held : Graph → Blocks
held g = cut g.starts.now g.nbrs.now

abbrev pub SearchingIn : Graph → List ℕ → List ℕ → List ℕ → ℕ → ℕ → ℕ → Type 0
SearchingIn g roots todo work left cur k = Searching (held g) roots todo g.starts.now g.n g.s work left cur k

pub record Underway (g : Graph) (work : List ℕ) (cur k : ℕ) : Type 0 where
  pub roots : List ℕ
  pub todo : List ℕ
  pub left : ℕ
  pub searching : SearchingIn g roots todo work left cur k

-- the start v is tried, whatever the roots and the further starts are
abbrev pub StartTried : Graph → List ℕ → List ℕ → ℕ → ℕ → Hand → Type 0
StartTried g work next v k hand =
    (roots todo : List ℕ) (left : ℕ)
    → SearchingIn g roots (v ∷ todo) work left 0 k
    → SearchingIn g roots todo next (left - 1) hand.cur hand.k

-- the vertex u at hand goes on, whatever the roots and the starts are
abbrev pub NextTried : Graph → List ℕ → List ℕ → ℕ → ℕ → Hand → Type 0
NextTried g work next u k hand =
    (roots todo : List ℕ) (left : ℕ)
    → SearchingIn g roots todo work left (suc u) k
    → SearchingIn g roots todo next (left - 1) hand.cur hand.k

-- a vertex is at hand, or vertex i is one that is still to try
abbrev pub IsLeft : ℕ → ℕ → Hand → Type 0
IsLeft n i hand = hand.cur ≡ 0 → i < n

-- one or the other, where the vertices from i on are still to try
abbrev pub StepTaken : Graph → List ℕ → List ℕ → ℕ → Hand → At → Type 0
StepTaken g work next i hand at =
    (roots : List ℕ) (left : ℕ)
    → SearchingIn g roots (count_up i (g.n - i)) work left hand.cur hand.k
    → SearchingIn g roots (count_up at.i (g.n - at.i)) next (left - 1) at.hand.cur at.hand.k

-- ---- the sections are written

abbrev pub Holds : Graph → List ℕ → List ℕ → Type 0
Holds g work index = (F : Forest) → Lifting (held g) F g.n g.s work 0 → index ≡ index_by (held g) F
