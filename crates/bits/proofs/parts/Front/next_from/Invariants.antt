-- `parts::Front::next_from` meets its contract: no one stands in the parts passed.
use mathlib.Core.Path.{◌≡◌}
use Prim.Native.Nat.{◌-◌, ◌%◌, ◌<◌}
use Rattle.bits.specs.Bits.{bits}
use Rattle.bits.specs.Spans.{Cleared}
use Rattle.bits.proofs.parts.Front.next_from.Given as goal

abbrev pub invariant-loop-at : goal.invariant-loop-at
invariant-loop-at l = Cleared (bits l.self.bytes.now) l.from l.self.end l.at × (l.at < l.self.end → l.at % 8 ≡ 0)

abbrev pub decreases-loop-at : goal.decreases-loop-at
decreases-loop-at l = l.self.end - l.at
