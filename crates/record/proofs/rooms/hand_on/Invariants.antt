-- `rooms::hand_on` meets its contract: the list is filled from the front.
use mathlib.Core.List.{map}
use Prim.Native.Nat.{suc}
use Rattle.adjacency.specs.Laws.InOrder.{InOrder}
use Rattle.record.proofs.rooms.hand_on.Given as goal

abbrev pub invariant-loop-i : goal.invariant-loop-i
invariant-loop-i l = InOrder (map suc l.nbrs) l.list l.i
