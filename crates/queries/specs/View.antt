-- What an index shows beside a record, built or not: the marks of each block, and the stored numbers. The queries speak
-- of this alone, so another layout of the index is another function from bytes to the same view.
use Rattle.std.specs.Prelude.{◌≡◌, Bool, false, List, ℕ, suc, ◌+◌, ◌*◌, ◌<◌, length, take, drop, get_or}
use Rattle.bits.specs.Bits.{bits, string, count, select}
use Rattle.graph.specs.Graph.{Blocks, block}
use Rattle.record.specs.Record.{terminals, wires, unary, fields_from, blocks}
use Rattle.forest.specs.Index.{mark_bytes, index_length}

-- vertices count from 0
pub record View : Type 0 where
  pub graph : Blocks  -- the record's blocks
  pub marks_e : ℕ → List Bool  -- for each vertex the marks of its block, in order
  pub marks_p : ℕ → List Bool
  pub marks_b : ℕ → List Bool
  pub stored : ℕ → ℕ  -- for each vertex the stored number

-- the part of a section that belongs to u's block: it follows the place of the vertex's one in D
unfoldable pub block_marks : List ℕ → List Bool → ℕ → List Bool
block_marks bytes s u = take (length (block (blocks bytes) u)) (drop (select (unary bytes) (suc u)) s)

-- the k-th section of marks, from 0
unfoldable pub section_of : ℕ → ℕ → List ℕ → ℕ → List Bool
section_of n m index k = string index (8 * (k * mark_bytes n m)) (n + 2 * m)

-- the number stored for u, one of the n fields behind the marks
unfoldable pub number_of : ℕ → ℕ → List ℕ → ℕ → ℕ
number_of n m index u = get_or (fields_from (bits index) (8 * (3 * mark_bytes n m)) n) u 0

-- document 01's layout, for a record of n terminals and m wires
abbrev pub view_by : ℕ → ℕ → List ℕ → List ℕ → View
view_by n m bytes index = record {
  graph = blocks bytes;
  marks_e = block_marks bytes (section_of n m index 0);
  marks_p = block_marks bytes (section_of n m index 1);
  marks_b = block_marks bytes (section_of n m index 2);
  stored = number_of n m index;
}

abbrev pub view_of : List ℕ → List ℕ → View
view_of bytes index = view_by (terminals bytes) (wires bytes) bytes index

-- ---- the bits of an index

-- bit p, from 0, of section k: 0 is E, 1 is P and 2 is B. The bits from n + 2·m on are the section's fill
abbrev pub section_bit : List ℕ → List ℕ → ℕ → ℕ → Bool
section_bit bytes index k p = get_or (bits index) (8 * (k * mark_bytes (terminals bytes) (wires bytes)) + p) false

-- how many ones the string B has
abbrev pub ones_of_b : List ℕ → List ℕ → ℕ
ones_of_b bytes index = count (section_of (terminals bytes) (wires bytes) index 2)

-- bit i, from 0, of the stored numbers
abbrev pub number_bit : List ℕ → List ℕ → ℕ → Bool
number_bit bytes index i = section_bit bytes index 3 i

-- the place of D, from 0, of position j of u's block
abbrev pub place_of : List ℕ → ℕ → ℕ → ℕ
place_of bytes u j = select (unary bytes) (suc u) + j

-- two indexes of the right length that agree at the places of the blocks and on the n stored numbers
pub record Alike (bytes a b : List ℕ) : Type 0 where
  pub first_length : length a ≡ index_length (terminals bytes) (wires bytes)
  pub second_length : length b ≡ index_length (terminals bytes) (wires bytes)
  pub same_marks : (k u j : ℕ) → k < 3 → j < length (block (blocks bytes) u)
      → section_bit bytes a k (place_of bytes u j) ≡ section_bit bytes b k (place_of bytes u j)
  pub same_numbers : (i : ℕ) → i < 12 * terminals bytes → number_bit bytes a i ≡ number_bit bytes b i
