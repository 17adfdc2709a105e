-- Counting: the places and the wires that pass a test, the looms, and the sections.
use Rattle.std.specs.Prelude.{ℕ, zero, suc, ◌+◌, Bool, true, false, not, ◌||◌, List, [], ◌∷◌, map, eqb, ltb, length}
use Rattle.graph.specs.Graph.{Blocks, block, target, mentions, twin}
use Rattle.graph.specs.Search.{Forest, PlaceTest, all, count_up}
use Rattle.graph.specs.Joined.{joined}
use Rattle.graph.specs.Forest.{head}

abbrev pub when : Bool → ℕ → ℕ  -- x where the test passes, else 0
when true x = x
when false x = 0

unfoldable pub sum : ℕ → (ℕ → ℕ) → ℕ  -- f 0 + f 1 + .., n terms
sum zero f = 0
sum (suc n) f = sum n f + f n

-- ---- places and wires

unfoldable pub over : Blocks → (ℕ → ℕ → ℕ) → ℕ  -- the sum of f u j over the places (u, j)
over g f = sum (length g) (λ u. sum (length (block g u)) (f u))

unfoldable pub count_places : Blocks → PlaceTest → ℕ  -- how many places pass
count_places g test = over g (λ u j. when (test u j) 1)

unfoldable pub count_edges : Blocks → PlaceTest → ℕ  -- how many wires pass, each tested at its lower end alone
count_edges g test = over g (λ u j. when (ltb u (target g u j)) (when (test u j) 1))

unfoldable pub at_neither : Blocks → PlaceTest → PlaceTest  -- the wire at this place has the mark at neither end
at_neither g mark u j = not (mark u j || mark (target g u j) (twin g u j))

-- ---- looms

unfoldable pub first : (ℕ → Bool) → ℕ → ℕ  -- the first number that passes, if it is below k, and else k
first test zero = 0
first test (suc k) = elim (test 0) [ true ↦ 0 | false ↦ suc (first (λ x. test (suc x)) k) ]

unfoldable pub lowest : Blocks → ℕ → ℕ  -- the lowest vertex that is joined to v
lowest g v = first (λ u. joined g all u v) v

-- how many looms there are: a loom is the vertices joined to one another, counted at its lowest
unfoldable pub looms : Blocks → ℕ
looms g = sum (length g) (λ v. when (eqb (lowest g v) v) 1)

-- ---- sections

unfoldable pub different : List ℕ → ℕ  -- how many different numbers stand in a list: each counts where it stands last
different [] = 0
different (x ∷ l) = when (eqb (mentions x l) 0) 1 + different l

-- how many sections there are: a section is the vertices that share a head
unfoldable pub sections : Blocks → Forest → ℕ
sections g F = different (map (head g F) (count_up 0 (length g)))
