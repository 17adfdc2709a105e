-- What the operations on a record answer (document 01, "Operations and their answers").
use Rattle.std.specs.Prelude.{Bool, true, false, not, ◌||◌, ◌&&◌, List, [], ◌∷◌, ◌++◌, map, ℕ, suc, ◌+◌, ◌-◌, ◌*◌, eqb}
use Rattle.std.specs.Prelude.{ltb, length, get_or, ◌≡◌}
use Rattle.graph.specs.Graph.{Blocks, block}
use Rattle.record.specs.Record.{terminals, wires, unary, fields, parts, blocks}
use Rattle.record.specs.Starts.{starts_of}
use Rattle.record.specs.Rules.{Rule, first_broken, order_r, place_rules, check_rules}
use Rattle.record.specs.Answers.{Answer, tried, buffer_after}

-- a list has another length than this
unfoldable pub other_length : List ℕ → ℕ → Bool
other_length l k = not (eqb (length l) k)

-- a number that counts from 1, a terminal's or a visit's, is 0 or above n
unfoldable pub out_of_range : ℕ → ℕ → Bool
out_of_range n k = eqb k 0 || ltb n k

-- what rules 6 and 8 say of a graph
unfoldable pub check_graph : Blocks → Answer (Unit {0})
check_graph g = tried (place_rules g) tt

-- Check
unfoldable pub check : List ℕ → Answer (Unit {0})
check bytes = tried (check_rules bytes) tt

-- a record that Check doesn't refuse
pub record Accepted (bytes : List ℕ) : Type 0 where
  pub unbroken : first_broken (check_rules bytes) ≡ 0

-- Degree
unfoldable pub degree_rules : List ℕ → ℕ → List Rule
degree_rules bytes v = order_r bytes ++ ((11, out_of_range (terminals bytes) v) ∷ [])

unfoldable pub degree : List ℕ → ℕ → Answer ℕ
degree bytes v = tried (degree_rules bytes v) (length (block (blocks bytes) (v - 1)))

-- Unpack: its answer, and the list afterwards
unfoldable pub unpack_rules : List ℕ → List ℕ → List Rule
unpack_rules bytes list = check_rules bytes ++ ((10, other_length list (2 * wires bytes)) ∷ [])

unfoldable pub unpack : List ℕ → List ℕ → Answer (Unit {0})
unpack bytes list = tried (unpack_rules bytes list) tt

unfoldable pub unpacked : List ℕ → List ℕ → List ℕ
unpacked bytes list = buffer_after (unpack_rules bytes list) (map suc (fields bytes)) list

-- Neighbours refuses, without a number, where Degree does or the list is not 2·m long
unfoldable pub neighbours_given : List ℕ → List ℕ → ℕ → Bool
neighbours_given bytes list v = eqb (first_broken (degree_rules bytes v)) 0 && not (other_length list (2 * wires bytes))

-- the part of the list that belongs to v's block; a refusal is the empty part at the front
unfoldable pub neighbours : List ℕ → List ℕ → ℕ → List ℕ
neighbours bytes list v =
    elim (neighbours_given bytes list v) [ true ↦ block (parts (unary bytes) list) (v - 1) | false ↦ [] ]

-- how many numbers of the list stand before that part
unfoldable pub neighbours_before : List ℕ → List ℕ → ℕ → ℕ
neighbours_before bytes list v =
    elim (neighbours_given bytes list v) [ true ↦ get_or (starts_of (unary bytes)) (v - 1) 0 | false ↦ 0 ]

-- where that part stands in any list of this length: how many numbers come before it, and how many it has
pub record PartOf (bytes : List ℕ) (len v from size : ℕ) : Type 0 where
  pub begins : (list : List ℕ) → length list ≡ len → from ≡ neighbours_before bytes list v
  pub counts : (list : List ℕ) → length list ≡ len → size ≡ length (neighbours bytes list v)

-- the address of a list of 16-bit numbers (a block of memory, and a byte in it), k numbers further on
abbrev pub further : ℕ × ℕ → ℕ → ℕ × ℕ
further a k = (a.0, k * 2 + a.1)
