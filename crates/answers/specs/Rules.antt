-- Rules, each with its number, and the first broken one.
use Rattle.std.specs.Prelude.{Bool, true, false, List, [], ◌∷◌, ℕ}

-- a rule: its number, and whether it is broken
abbrev pub Rule : Type 0
Rule = ℕ × Bool

-- the number of the first broken rule, 0 where none is
unfoldable pub first_broken : List Rule → ℕ
first_broken [] = 0
first_broken (r ∷ rules) = elim r.1 [ true ↦ r.0 | false ↦ first_broken rules ]
