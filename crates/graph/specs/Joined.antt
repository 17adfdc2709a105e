-- Joined, with all wires or without one; the same as a test; bridges.
use Rattle.std.specs.Prelude.{ℕ, eqb}
use mathlib.Core.{Path.◌≡◌, Bool.Bool, Bool.true, Bool.not, Bool.◌&&◌, Bool.◌||◌, List.[], List.◌∷◌}
use Rattle.graph.specs.{Graph.Blocks, Graph.Place, Graph.target, Graph.twin, Search.PlaceTest, Search.all, Search.entered, Search.search}

pub data Chain (g : Blocks) (ok : PlaceTest) : ℕ → ℕ → Type 0 where  -- a chain of allowed places, possibly of none; over `all` it is document 01's joined
  here : {u : ℕ} → Chain g ok u u
  along : {u j v w : ℕ} → Place g u j v → ok u j ≡ true → Chain g ok v w → Chain g ok u w

unfoldable pub without : Blocks → ℕ → ℕ → PlaceTest  -- every place but the two of the wire at (a, b)
without g a b u j = not ((eqb u a && eqb j b) || (eqb u (target g a b) && eqb j (twin g a b)))

unfoldable pub joined : Blocks → PlaceTest → ℕ → ℕ → Bool  -- the search from u alone, over the allowed places, enters v
joined g ok u v = entered v (search g ok (u ∷ []))

unfoldable pub bridge : Blocks → PlaceTest  -- the mark B: the ends of the wire at this place are not joined without it
bridge g u j = not (joined g (without g u j) u (target g u j))

pub record DoublyJoined (g : Blocks) (u v : ℕ) : Type 0 where  -- joined, and still joined whichever one wire is taken out
  pub joined_all : Chain g all u v
  pub joined_without : (a b c : ℕ) → Place g a b c → Chain g (without g a b) u v
