-- Filing (document 02, "Filing from lists"): a list of degrees and one list of neighbours, numbers from 1, become a
-- record.
--   by_degrees     the blocks that the two lists give
--   record_from    their record
--   bad_lists      rule 16
--   file_rules     the rules, in the order in which they are tried
--   file, filed   File's answer, and the result buffer afterwards
use Rattle.std.specs.Prelude.{Bool, ◌||◌, List, [], ◌∷◌, ◌++◌, map, ℕ, ◌-◌, ◌%◌, eqb, ltb, length, take, drop}
use Rattle.graph.specs.Graph.{Blocks}
use Rattle.adjacency.specs.Places.{any_in}
use Rattle.adjacency.specs.Reverse.{total}
use Rattle.record.specs.Record.{record_of}
use Rattle.record.specs.Rules.{Rule, check_rules}
use Rattle.record.specs.Answers.{Answer, tried, buffer_after}
use Rattle.record.specs.Operations.{other_length, out_of_range}

-- the blocks that the two lists give: for each degree as many of the next neighbours
unfoldable pub by_degrees : List ℕ → List ℕ → Blocks
by_degrees [] l = []
by_degrees (d ∷ degrees) l = take d l ∷ by_degrees degrees (drop d l)

-- the record of the two lists; the fields count from 0
unfoldable pub record_from : List ℕ → List ℕ → List ℕ
record_from degrees neighbours = record_of (by_degrees degrees (map (λ v. v - 1) neighbours))

-- rule 16: too many degrees, a sum that is no record's, or another number of neighbours
unfoldable pub bad_lists : List ℕ → List ℕ → Bool
bad_lists degrees neighbours =
    ltb 4096 (length degrees)
    || (eqb (total degrees % 2) 1 || (ltb 32768 (total degrees) || other_length neighbours (total degrees)))

-- rule 16; 6 for a neighbour that is no terminal; Check's refusals of the record; rule 17
unfoldable pub file_rules : List ℕ → List ℕ → List ℕ → List Rule
file_rules degrees neighbours bytes =
    (16, bad_lists degrees neighbours)
    ∷ (6, any_in (out_of_range (length degrees)) neighbours)
    ∷ (check_rules (record_from degrees neighbours)
    ++ ((17, other_length bytes (length (record_from degrees neighbours))) ∷ []))

-- File: its answer, and the result buffer afterwards
unfoldable pub file : List ℕ → List ℕ → List ℕ → Answer (Unit {0})
file degrees neighbours bytes = tried (file_rules degrees neighbours bytes) tt

unfoldable pub filed : List ℕ → List ℕ → List ℕ → List ℕ
filed degrees neighbours bytes =
    buffer_after (file_rules degrees neighbours bytes) (record_from degrees neighbours) bytes
