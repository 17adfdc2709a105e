-- What the queries answer for every record, index and number: order Q, their own rules, and then what the view gives.
use Rattle.std.specs.Prelude.{Bool, List, [], ◌∷◌, ◌++◌, ℕ, ◌-◌}
use Rattle.std.proofs.Math.Option.{Option}
use Rattle.record.specs.Record.{terminals, wires}
use Rattle.record.specs.Rules.{Rule, order_r}
use Rattle.record.specs.Answers.{Answer, answered, tried_then}
use Rattle.record.specs.Operations.{other_length, out_of_range}
use Rattle.forest.specs.Index.{index_length}
use Rattle.queries.specs.View.{view_of}
use Rattle.queries.specs.Queries.{parent_of, head_of, ancestor_of, child_count, child_of, past_count}
use Rattle.queries.specs.Queries.{visit_of, visited_of}

-- order R, then 10 for the index
unfoldable pub beside_rules : List ℕ → List ℕ → List Rule
beside_rules bytes index =
    order_r bytes ++ ((10, other_length index (index_length (terminals bytes) (wires bytes))) ∷ [])

-- order Q: these, then 11 for a number that counts from 1, a terminal's or a visit's
unfoldable pub order_q : List ℕ → List ℕ → ℕ → List Rule
order_q bytes index k = beside_rules bytes index ++ ((11, out_of_range (terminals bytes) k) ∷ [])

unfoldable pub parent : List ℕ → List ℕ → ℕ → Answer (Option ℕ)
parent bytes index v = tried_then (order_q bytes index v) (parent_of (view_of bytes index) (v - 1))

unfoldable pub head : List ℕ → List ℕ → ℕ → Answer ℕ
head bytes index v = tried_then (order_q bytes index v) (head_of (view_of bytes index) (v - 1))

-- whether u is v or above it: order Q for u, then 11 for v
unfoldable pub ancestor_rules : List ℕ → List ℕ → ℕ → ℕ → List Rule
ancestor_rules bytes index u v = order_q bytes index u ++ ((11, out_of_range (terminals bytes) v) ∷ [])

unfoldable pub ancestor : List ℕ → List ℕ → ℕ → ℕ → Answer Bool
ancestor bytes index u v =
    tried_then (ancestor_rules bytes index u v) (ancestor_of (view_of bytes index) (u - 1) (v - 1))

unfoldable pub children : List ℕ → List ℕ → ℕ → Answer ℕ
children bytes index v = tried_then (order_q bytes index v) (answered (child_count (view_of bytes index) (v - 1)))

-- 13
unfoldable pub no_child : List ℕ → List ℕ → ℕ → ℕ → Bool
no_child bytes index v j = past_count (view_of bytes index) (v - 1) j

unfoldable pub child_rules : List ℕ → List ℕ → ℕ → ℕ → List Rule
child_rules bytes index v j = order_q bytes index v ++ ((13, no_child bytes index v j) ∷ [])

unfoldable pub child : List ℕ → List ℕ → ℕ → ℕ → Answer ℕ
child bytes index v j = tried_then (child_rules bytes index v j) (child_of (view_of bytes index) (v - 1) j)

unfoldable pub visit : List ℕ → List ℕ → ℕ → Answer ℕ
visit bytes index v = tried_then (order_q bytes index v) (visit_of (view_of bytes index) (v - 1))

-- i is a visit number
unfoldable pub visited : List ℕ → List ℕ → ℕ → Answer ℕ
visited bytes index i = tried_then (order_q bytes index i) (visited_of (view_of bytes index) (i - 1))
