-- A graph by the blocks of its vertices. Vertices count from 0: vertex v is terminal v + 1 of document 01.
use Rattle.std.specs.Prelude.{ℕ, zero, suc, ◌<◌}
use mathlib.Core.{Path.◌≡◌, Bool.true, Bool.false, List.List, List.[], List.◌∷◌}
use lib.{Dec.eqb, ListN.length, ListN.get_or, ListN.take}

abbrev pub Blocks : Type 0  -- for each vertex its block, which lists its neighbours in order
Blocks = List (List ℕ)

abbrev pub block : Blocks → ℕ → List ℕ  -- the block of vertex u
block g u = get_or g u []

abbrev pub target : Blocks → ℕ → ℕ → ℕ  -- the neighbour at position j of u's block
target g u j = get_or (block g u) j 0

pub record Place (g : Blocks) (u j v : ℕ) : Type 0 where  -- (u, j) is a place of the graph: u's block has a position j, and v stands there
  pub fits : j < length (block g u)
  pub leads : target g u j ≡ v

unfoldable pub mentions : ℕ → List ℕ → ℕ  -- how often a block mentions v
mentions v [] = 0
mentions v (x ∷ l) = elim (eqb v x) [ true ↦ suc (mentions v l) | false ↦ mentions v l ]

unfoldable pub position : ℕ → List ℕ → ℕ → ℕ  -- the position of the mention of v before which k others stand
position v [] k = 0
position v (x ∷ l) zero = elim (eqb v x) [ true ↦ 0 | false ↦ suc (position v l 0) ]
position v (x ∷ l) (suc k) = elim (eqb v x) [ true ↦ suc (position v l k) | false ↦ suc (position v l (suc k)) ]

unfoldable pub pair : Blocks → Blocks → ℕ → ℕ → ℕ  -- the k-th mention of v at u, in g, and the k-th of u at v, in h, are a pair: the other's position
pair g h u j = position u (block h (target g u j)) (mentions (target g u j) (take j (block g u)))

abbrev pub twin : Blocks → ℕ → ℕ → ℕ  -- the wire at (u, j) has one other place: position twin g u j of v's block
twin g u j = pair g g u j

pub record WellFormed (g : Blocks) : Type 0 where  -- neighbours are vertices, no vertex is its own, and u mentions v as often as v mentions u
  pub in_range : (u j v : ℕ) → Place g u j v → v < length g
  pub no_loop : (u j : ℕ) → Place g u j u → ⊥
  pub balanced : (u v : ℕ) → mentions v (block g u) ≡ mentions u (block g v)
