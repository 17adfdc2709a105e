-- `search::place_of` meets its contract: the bytes passed have fewer ones than are looked for.
use Prim.Native.Nat.{◌*◌}
use lib.ListN.{length}
use Rattle.bits.specs.Bits.{bits}
use Rattle.bits.specs.Spans.{Sought}
use Rattle.bits.proofs.search.place_of.Given as goal

abbrev pub invariant-loop-at : goal.invariant-loop-at
invariant-loop-at l = Sought (bits l.bytes) 0 (8 * length l.bytes) l.k (8 * l.at) l.left
