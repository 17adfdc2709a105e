-- `spans::nth_from` meets its contract: the parts passed have fewer ones than are left to go.
use Prim.Native.Nat.{◌+◌, ◌-◌}
use Rattle.bits.specs.Bits.{bits}
use Rattle.bits.specs.Spans.{Sought}
use Rattle.bits.proofs.spans.nth_from.Given as goal

abbrev pub invariant-loop-at : goal.invariant-loop-at
invariant-loop-at l = Sought (bits l.bytes) l.start (l.start + l.places) l.k l.at l.left

abbrev pub decreases-loop-at : goal.decreases-loop-at
decreases-loop-at l = l.end - l.at
