-- What contracts inside this crate, and in the crates above, say of a record that has passed some rules, of the two
-- arrays, of two lists that become a record, and of its bytes while they are written.
--   Headed, Sound, Laid          rules 1 to 3, order R, and rule 5 too let the record pass, and n and m are the
--                                header's
--   ArraysOf                     the graph of a record stands in two arrays
--   Lent, Room, Roomy            room for them, and for the rules over them: of the exact length, or more
--   Short, Handed                a list that each number of it can be raised by one; Check, with the neighbours for a
--                                list
--   Filling, Entering, Reading   the arrays while they are filled
--   Listed                       rule 16 lets two lists pass
--   vertex_of, graph_from          a neighbour of such a list as the arrays keep it, and the graph that they hold
--   Numbers                      neighbours from 1 that a field has room for
--   unary_bits                    the bits of D by the degrees
--   Laying                       the fields while they are written
use Rattle.std.specs.Prelude.{◌≡◌, Bool, true, false, List, ◌++◌, map, ℕ, zero, suc, ◌+◌, ◌-◌, ◌*◌, ◌%◌, ◌≤◌, ◌<◌}
use Rattle.std.specs.Prelude.{length, take, drop, get_or, replicate}
use Rattle.bits.specs.Bits.{count, field}
use Rattle.bits.specs.Steps.{Begun}
use Rattle.graph.specs.Graph.{Blocks}
use Rattle.adjacency.specs.Reverse.{total}
use Rattle.record.specs.Record.{terminals, wires, record_length, unary, fields_from, fields, lay_out, field_bits}
use Rattle.record.specs.Starts.{starts_from, starts_of}
use Rattle.record.specs.Rules.{first_broken, order_r, spare_set}
use Rattle.record.specs.Answers.{Answer}
use Rattle.record.specs.Operations.{check, unpacked}
use Rattle.record.specs.Filing.{by_degrees}

-- rules 1 to 3 are kept, and n and m are the header's
pub record Headed (bytes : List ℕ) (n m : ℕ) : Type 0 where
  pub is_n : n ≡ terminals bytes
  pub is_m : m ≡ wires bytes
  pub n_fits : n ≤ 4096
  pub m_fits : m ≤ 16384
  pub sized : length bytes ≡ record_length n m

-- order R lets the record pass, n and m are the header's, and the bytes hold the used bits
pub record Sound (bytes : List ℕ) (n m : ℕ) : Type 0 where
  pub kept : first_broken (order_r bytes) ≡ 0
  pub is_n : n ≡ terminals bytes
  pub is_m : m ≡ wires bytes
  pub n_fits : n ≤ 4096
  pub m_fits : m ≤ 16384
  pub held : 28 + (n + 2 * m) + 12 * (2 * m) ≤ 8 * length bytes
  pub short : length bytes ≤ 53764

-- rule 5 lets it pass too
pub record Laid (bytes : List ℕ) (n m : ℕ) : Type 0 where
  pub sound : Sound bytes n m
  pub clear : spare_set bytes ≡ false

-- the graph of such a record stands in two arrays
pub record ArraysOf (bytes starts nbrs : List ℕ) (n m : ℕ) : Type 0 where
  pub sound : Sound bytes n m
  pub are_starts : starts ≡ starts_of (unary bytes)
  pub are_fields : nbrs ≡ fields bytes

-- room for the two arrays and for what rules 6 and 8 keep: a cell for each terminal or for each place
pub record Lent (n m : ℕ) (starts nbrs reverse next : List ℕ) : Type 0 where
  pub all_starts : length starts ≡ n + 1
  pub all_nbrs : length nbrs ≡ 2 * m
  pub all_reverse : length reverse ≡ 2 * m
  pub all_next : length next ≡ n

-- a room of so many cells, for a graph of n terminals and m wires
pub record Room (n m starts nbrs reverse next : ℕ) : Type 0 where
  pub for_starts : (n + 1 ≤ starts) × (starts ≤ 40000)
  pub for_nbrs : (2 * m ≤ nbrs) × (nbrs ≤ 40000)
  pub for_reverse : (2 * m ≤ reverse) × (reverse ≤ 40000)
  pub for_next : (n ≤ next) × (next ≤ 40000)

-- arrays with room to spare
pub record Roomy (n m : ℕ) (starts nbrs reverse next : List ℕ) : Type 0 where
  pub for_starts : n + 1 ≤ length starts
  pub for_nbrs : 2 * m ≤ length nbrs
  pub for_reverse : 2 * m ≤ length reverse
  pub for_next : n ≤ length next

-- each number can be one more
abbrev pub Short : List ℕ → Type 0
Short list = (i : ℕ) → i < length list → get_or list i 0 < 65535

-- what Check answers, and what Unpack leaves in a list: the neighbours of an accepted record, from 1, where it is 2·m
-- long
pub record Handed (bytes list after : List ℕ) (answer : Answer (Unit {0})) : Type 0 where
  pub told : answer ≡ check bytes
  pub left : after ≡ unpacked bytes list

-- the first i bits of D are read, k of them are ones, and their starts are entered
pub record Filling (d : List Bool) (starts : List ℕ) (i k : ℕ) : Type 0 where
  pub upto : i ≤ length d
  pub ones : k ≡ count (take i d)
  pub size : length starts ≡ count d + 1
  pub filled : take k starts ++ starts_from (i - k) (drop i d) ≡ starts_of d

-- the bits of D up to some place are read, k of them are ones, and their starts are entered; the bits from there to
-- `end` are the number w
pub record Entering (d : List Bool) (starts : List ℕ) (w end k : ℕ) : Type 0 where
  pub place : ℕ
  pub before : place ≤ end
  pub inside : end ≤ length d
  pub filling : Filling d starts place k
  pub left : w ≡ field (end - place) d place

-- the first i of k fields are read into a list
pub record Reading (s : List Bool) (start k : ℕ) (list : List ℕ) (i : ℕ) : Type 0 where
  pub upto : i ≤ k
  pub size : length list ≡ k
  pub same : take i list ≡ take i (fields_from s start k)

-- rule 16 lets the two lists pass
pub record Listed (degrees neighbours : List ℕ) : Type 0 where
  pub few : length degrees ≤ 4096
  pub even : total degrees % 2 ≡ 0
  pub fits : total degrees ≤ 32768
  pub whole : length neighbours ≡ total degrees

-- a neighbour's number, from 1, as the arrays keep it, from 0; where it is 0 itself, a number that is no vertex
abbrev pub vertex_of : ℕ → ℕ
vertex_of zero = 65535
vertex_of (suc v) = v

-- the graph that two lists give the arrays
abbrev pub graph_from : List ℕ → List ℕ → Blocks
graph_from degrees neighbours = by_degrees degrees (map vertex_of neighbours)

-- each is a number from 1 to 4,096
abbrev pub Numbers : List ℕ → Type 0
Numbers neighbours = (i : ℕ) → i < length neighbours → (1 ≤ get_or neighbours i 0) × (get_or neighbours i 0 ≤ 4096)

-- the bits of D by the degrees
unfoldable pub unary_bits : List ℕ → List Bool
unary_bits degrees = lay_out true (map (λ d. replicate d false) degrees)

-- behind the first bits of s, up to `start`, the first i numbers of a list are written
pub record Laying (start : ℕ) (s : List Bool) (numbers bytes : List ℕ) (i : ℕ) : Type 0 where
  pub upto : i ≤ length numbers
  pub begun : Begun bytes (take start s ++ field_bits (take i numbers))
