-- `search::skip_from` meets its contract: the words passed have fewer ones than are left to go.
use Prim.Native.Nat.{◌+◌, ◌*◌}
use lib.ListN.{length}
use Rattle.bits.specs.Bits.{bits}
use Rattle.bits.specs.Spans.{Sought}
use Rattle.bits.proofs.search.skip_from.Given as goal

abbrev pub invariant-loop-i : goal.invariant-loop-i
invariant-loop-i l = Sought (bits l.bytes) (8 * l.first) (8 * length l.bytes) l.k (8 * (l.first + 8 * l.i)) l.left
