-- The rules that a record must keep (document 01, "order R" and "Check"; document 02 drops rule 7), each with its
-- number, and the first broken one.
use Rattle.std.specs.Prelude.{Bool, true, false, not, ◌||◌, List, [], ◌∷◌, ◌++◌, ℕ, eqb, ltb, length, drop}
use Rattle.bits.specs.Bits.{bits, count}
use Rattle.graph.specs.Graph.{Blocks}
use Rattle.adjacency.specs.Places.{any_place, stray, one_sided}
use Rattle.record.specs.Record.{terminals, wires, used_bits, record_length, unary, blocks}

-- a rule: its number, and whether it is broken
abbrev pub Rule : Type 0
Rule = ℕ × Bool

-- the number of the first broken rule, 0 where none is
unfoldable pub first_broken : List Rule → ℕ
first_broken [] = 0
first_broken (r ∷ rules) = elim r.1 [ true ↦ r.0 | false ↦ first_broken rules ]

-- D begins with a zero
unfoldable pub begins_with_zero : List Bool → Bool
begins_with_zero [] = false
begins_with_zero (b ∷ d) = not b

-- order R
unfoldable pub order_r : List ℕ → List Rule
order_r bytes =
    (1, ltb (length bytes) 4)
    ∷ (2, ltb 4096 (terminals bytes) || ltb 16384 (wires bytes))
    ∷ (3, not (eqb (length bytes) (record_length (terminals bytes) (wires bytes))))
    ∷ (4, not (eqb (count (unary bytes)) (terminals bytes)) || begins_with_zero (unary bytes))
    ∷ []

-- a spare bit is set
unfoldable pub spare_set : List ℕ → Bool
spare_set bytes = not (eqb (count (drop (used_bits (terminals bytes) (wires bytes)) (bits bytes))) 0)

-- rules 6 and 8, each over the whole graph
unfoldable pub place_rules : Blocks → List Rule
place_rules g = (6, any_place (stray g) g) ∷ (8, any_place (one_sided g) g) ∷ []

-- order R and rule 5, which ask for the layout alone
unfoldable pub layout_rules : List ℕ → List Rule
layout_rules bytes = order_r bytes ++ ((5, spare_set bytes) ∷ [])

-- Check: order R, and then rules 5, 6 and 8, each over the whole record
unfoldable pub check_rules : List ℕ → List Rule
check_rules bytes = layout_rules bytes ++ place_rules (blocks bytes)
