-- Tests at the places of a graph, and the two that rules 6 and 8 ask for.
use Rattle.std.specs.Prelude.{Bool, false, not, ◌||◌, List, [], ◌∷◌, ℕ, suc, eqb, leb, length}
use Rattle.graph.specs.Graph.{Blocks, block, mentions}

-- a test holds for some neighbour of a block
unfoldable pub any_in : (ℕ → Bool) → List ℕ → Bool
any_in test [] = false
any_in test (v ∷ l) = test v || any_in test l

-- a test of a vertex u and a neighbour v holds at some place of the blocks; the first block is vertex u's
unfoldable pub any_from : (ℕ → ℕ → Bool) → ℕ → Blocks → Bool
any_from test u [] = false
any_from test u (b ∷ g) = any_in (test u) b || any_from test (suc u) g

abbrev pub any_place : (ℕ → ℕ → Bool) → Blocks → Bool
any_place test g = any_from test 0 g

-- a neighbour that is no vertex, or the vertex itself
unfoldable pub stray : Blocks → ℕ → ℕ → Bool
stray g u v = leb (length g) v || eqb v u

-- a wire listed at one end only: the two ends mention each other a different number of times
unfoldable pub one_sided : Blocks → ℕ → ℕ → Bool
one_sided g u v = not (eqb (mentions v (block g u)) (mentions u (block g v)))
