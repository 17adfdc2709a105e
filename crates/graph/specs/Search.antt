-- The depth-first search (document 01, "Forest"; the start is document 02's): it takes the starts in order; each one
-- still unvisited becomes a root. From a visited vertex it tries the neighbours in listed order, goes to the first
-- unvisited one as a child, and returns when none is left.
use Rattle.std.specs.Prelude.{ℕ, zero, suc, ◌+◌}
use mathlib.Core.{Bool.Bool, Bool.true, Bool.false, Bool.◌||◌, List.List, List.[], List.◌∷◌, List.◌++◌, List.map}
use mathlib.Core.{List.flatten}
use lib.{Dec.eqb, ListN.length}
use Rattle.graph.specs.Graph.{Blocks, block}

pub data Goal : Type 0 where  -- what the search tries:
  root : ℕ → Goal  -- a start, to be a root
  via : ℕ → ℕ → ℕ → Goal  -- the place (u, j), where v stands

abbrev pub aim : Goal → ℕ  -- the vertex that a goal leads to
aim (root v) = v
aim (via u j v) = v

abbrev pub Forest : Type 0  -- the goals that led to an unvisited vertex, the last one first
Forest = List Goal

abbrev pub PlaceTest : Type 0  -- a yes or no for each place (vertex, position): which ones are allowed, or marked
PlaceTest = ℕ → ℕ → Bool

abbrev pub all : PlaceTest  -- every place
all u j = true

unfoldable pub entered : ℕ → Forest → Bool  -- v is visited
entered v [] = false
entered v (a ∷ F) = eqb v (aim a) || entered v F

unfoldable pub arcs : PlaceTest → ℕ → ℕ → List ℕ
    → List Goal  -- the allowed places of u from position j on, as goals; the list is the block from there on
arcs ok u j [] = []
arcs ok u j (v ∷ l) = elim (ok u j) [ true ↦ via u j v ∷ arcs ok u (suc j) l | false ↦ arcs ok u (suc j) l ]

unfoldable pub run : Blocks → PlaceTest → ℕ → Forest → List Goal
    → Forest  -- the first goal is passed over if visited; else entered, its places next
run g ok zero F goals = F
run g ok (suc k) F [] = F
run g ok (suc k) F (a ∷ goals) =
    elim (entered (aim a) F) [
      | true ↦ run g ok k F goals
      | false ↦ run g ok k (a ∷ F)
          (arcs ok (aim a) 0 (block g (aim a)) ++ goals)
    ]

unfoldable pub search : Blocks → PlaceTest → List ℕ
    → Forest  -- with a step for each start and each place: there are no more goals
search g ok starts = run g ok (length starts + length (flatten g)) [] (map root starts)

unfoldable pub count_up : ℕ → ℕ → List ℕ  -- i, i + 1, ..: n numbers
count_up i zero = []
count_up i (suc n) = i ∷ count_up (suc i) n

unfoldable pub starts_from : ℕ → ℕ
    → List ℕ  -- the start s, and then all n vertices in order, s among them; none where n is 0
starts_from zero s = []
starts_from (suc n) s = s ∷ count_up 0 (suc n)

abbrev pub forest : Blocks → ℕ → Forest  -- every place is allowed, and the search begins at the vertex s
forest g s = search g all (starts_from (length g) s)
