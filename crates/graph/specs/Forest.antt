-- What is read from a forest: visit numbers, parents, roots, ancestors, children, heads, and the marks.
use Rattle.std.specs.Prelude.{ℕ, suc}
use mathlib.Core.{Bool.true, Bool.false, Bool.◌&&◌, Bool.◌||◌, List.List, List.[], List.◌∷◌, List.◌++◌, List.Memᴰ}
use lib.{Dec.eqb, ListN.length}
use Rattle.graph.specs.{Graph.Blocks, Graph.target, Graph.pair, Search.Forest, Search.PlaceTest, Search.root}
use Rattle.graph.specs.{Search.via, Search.aim, Joined.bridge}

unfoldable pub number : Forest → ℕ → ℕ  -- the visit number of v, from 0: how many were entered before it
number [] v = 0
number (a ∷ F) v = elim (eqb v (aim a)) [ true ↦ length F | false ↦ number F v ]

unfoldable pub vertex_at : Forest → ℕ → ℕ  -- the vertex of visit number k
vertex_at [] k = 0
vertex_at (a ∷ F) k = elim (eqb k (length F)) [ true ↦ aim a | false ↦ vertex_at F k ]

unfoldable pub climb : {A : Type 0} → (ℕ → A) → (ℕ → ℕ → ℕ → A → A) → Forest → ℕ
    → A  -- r at a root; at v, entered from u by place j, s of the value at u
climb r s [] x = r x
climb r s (root v ∷ F) x = elim (eqb x v) [ true ↦ r v | false ↦ climb r s F x ]
climb r s (via u j v ∷ F) x = elim (eqb x v) [ true ↦ s u j v (climb r s F u) | false ↦ climb r s F x ]

unfoldable pub parent : Forest → ℕ → ℕ  -- 0 for a root, else 1 + the parent
parent F = climb (λ v. 0) (λ u j v a. suc u) F

unfoldable pub roots : Forest → ℕ  -- how many roots there are
roots [] = 0
roots (root v ∷ F) = suc (roots F)
roots (via u j v ∷ F) = roots F

unfoldable pub root_of : Forest → ℕ → ℕ  -- the root above v
root_of F = climb (λ v. v) (λ u j v a. a) F

unfoldable pub head : Blocks → Forest → ℕ
    → ℕ  -- document 01's climb: v itself at a root or below a bridge, else the parent's head
head g F = climb (λ v. v) (λ u j v a. elim (bridge g u j) [ true ↦ v | false ↦ a ]) F

pub data Ancestor (F : Forest) (x : ℕ) : ℕ → Type 0 where  -- x is met on the way up from v, v included
  self : Ancestor F x x
  child : {u j v : ℕ} → Memᴰ (via u j v) F → Ancestor F x u → Ancestor F x v

unfoldable pub children : Forest → ℕ → List ℕ  -- the children of x in the order of their visits
children [] x = []
children (root v ∷ F) x = children F x
children (via u j v ∷ F) x = elim (eqb x u) [ true ↦ children F x ++ (v ∷ []) | false ↦ children F x ]

unfoldable pub child_mark : Forest → PlaceTest  -- the mark E: the search went down by this place
child_mark [] x i = false
child_mark (root v ∷ F) x i = child_mark F x i
child_mark (via u j v ∷ F) x i = (eqb x u && eqb i j) || child_mark F x i

unfoldable pub parent_mark : Blocks → Blocks → Forest
    → PlaceTest  -- the mark P, in h: its pair in g has the mark E; for wires h is g
parent_mark h g F u j = child_mark F (target h u j) (pair h g u j)
