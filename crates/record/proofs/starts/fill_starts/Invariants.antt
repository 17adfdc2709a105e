-- `starts::fill_starts` meets its contract: the starts of the blocks whose ones were read are entered, and in a part of
-- D each turn enters the start of the highest one that is left.
use Prim.Native.Nat.{◌-◌}
use Rattle.record.specs.Record.{unary}
use Rattle.record.specs.Steps.{Filling, Entering}
use Rattle.record.proofs.starts.fill_starts.Given as goal

abbrev pub invariant-loop-i : goal.invariant-loop-i
invariant-loop-i l = Filling (unary l.layout.bytes.now) l.starts l.i l.k

abbrev pub decreases-loop-i : goal.decreases-loop-i
decreases-loop-i l = l.places - l.i

abbrev pub invariant-loop-left : goal.invariant-loop-left
invariant-loop-left l = Entering (unary l.layout.bytes.now) l.starts l.left l.end l.k

abbrev pub decreases-loop-left : goal.decreases-loop-left
decreases-loop-left l = l.left
