-- `spans::lone_from` meets its contract: no one stands in the parts passed.
use Prim.Native.Nat.{◌+◌, ◌-◌}
use Rattle.bits.specs.Bits.{bits}
use Rattle.bits.specs.Spans.{Cleared}
use Rattle.bits.proofs.spans.lone_from.Given as goal

abbrev pub invariant-loop-at : goal.invariant-loop-at
invariant-loop-at l = Cleared (bits l.bytes) l.start (l.start + l.places) l.at

abbrev pub decreases-loop-at : goal.decreases-loop-at
decreases-loop-at l = l.end - l.at
