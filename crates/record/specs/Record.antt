-- The record's layout (document 01, "Record"): from bytes to the blocks of a graph, and back. Terminals count from 0
-- here, as the fields do.
use Rattle.std.specs.Prelude.{Bool, true, false, ℕ, zero, suc, ◌+◌, ◌*◌, ◌/◌, length, take, drop, replicate}
use mathlib.Core.List.{List, [], ◌∷◌, ◌++◌, flatten, map}
use Rattle.bits.specs.Bits.{to_bits, bits, string, field, pack}
use Rattle.graph.specs.Graph.{Blocks}

-- n, the number of terminals
unfoldable pub terminals : List ℕ → ℕ
terminals bytes = field 13 (bits bytes) 0

-- m, the number of wires
unfoldable pub wires : List ℕ → ℕ
wires bytes = field 15 (bits bytes) 13

-- the bits of a record without the spare ones: n and m, D, and the fields
unfoldable pub used_bits : ℕ → ℕ → ℕ
used_bits n m = 28 + (n + 2 * m) + 12 * (2 * m)

-- the length in bytes that n and m give
unfoldable pub record_length : ℕ → ℕ → ℕ
record_length n m = (used_bits n m + 7) / 8

-- D: for each terminal a one, and then a zero for each of its wires
unfoldable pub unary : List ℕ → List Bool
unary bytes = string bytes 28 (terminals bytes + 2 * wires bytes)

-- k fields of 12 bits from bit `start` on
unfoldable pub fields_from : List Bool → ℕ → ℕ → List ℕ
fields_from s start zero = []
fields_from s start (suc k) = field 12 s start ∷ fields_from s (start + 12) k

-- the neighbour fields
unfoldable pub fields : List ℕ → List ℕ
fields bytes = fields_from (bits bytes) (28 + (terminals bytes + 2 * wires bytes)) (2 * wires bytes)

-- the zeros before the first one
unfoldable pub zeros : List Bool → ℕ
zeros [] = 0
zeros (true ∷ d) = 0
zeros (false ∷ d) = suc (zeros d)

-- the parts of a list that belong to the blocks: for each one of D as many numbers as zeros follow it, in order
unfoldable pub parts : List Bool → List ℕ → List (List ℕ)
parts [] l = []
parts (true ∷ d) l = take (zeros d) l ∷ parts d (drop (zeros d) l)
parts (false ∷ d) l = parts d l

-- the blocks of a record
unfoldable pub blocks : List ℕ → Blocks
blocks bytes = parts (unary bytes) (fields bytes)

-- ---- the record that blocks make

-- bits laid out in blocks: for each terminal its own bit, and then those of its block
unfoldable pub lay_out : Bool → List (List Bool) → List Bool
lay_out own [] = []
lay_out own (b ∷ bs) = own ∷ (b ++ lay_out own bs)

-- D of some blocks
unfoldable pub unary_of : Blocks → List Bool
unary_of g = lay_out true (map (λ b. replicate (length b) false) g)

-- the bits of numbers, 12 for each
unfoldable pub field_bits : List ℕ → List Bool
field_bits [] = []
field_bits (x ∷ xs) = to_bits 12 x ++ field_bits xs

-- the bits of n and m
unfoldable pub header_bits : ℕ → ℕ → List Bool
header_bits n m = to_bits 13 n ++ to_bits 15 m

-- the used bits of the record of some blocks: n, m, D and the fields
unfoldable pub record_bits : Blocks → List Bool
record_bits g = to_bits 13 (length g) ++ (to_bits 15 (length (flatten g) / 2) ++ (unary_of g ++ field_bits (flatten g)))

-- the record of some blocks
unfoldable pub record_of : Blocks → List ℕ
record_of g = pack (record_bits g)
