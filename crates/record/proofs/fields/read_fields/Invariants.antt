-- `fields::read_fields` meets its contract: the list is filled from the front, by fours, and then on to its end.
use Prim.Native.Nat.{◌*◌}
use lib.ListN.{length}
use Rattle.bits.specs.Bits.{bits}
use Rattle.record.specs.Steps.{Reading}
use Rattle.record.proofs.fields.read_fields.Given as goal

abbrev pub invariant-loop-k : goal.invariant-loop-k
invariant-loop-k l = Reading (bits l.bytes) l.start (length l.fn.list) l.list (4 * l.k)

abbrev pub invariant-loop-i : goal.invariant-loop-i
invariant-loop-i l = Reading (bits l.bytes) l.start (length l.fn.list) l.list l.i
