-- `cells::copy` meets its contract: the list is filled from the front.
use Rattle.adjacency.specs.Laws.InOrder.{InOrder}
use Rattle.adjacency.proofs.cells.copy.Given as goal

abbrev pub invariant-loop-i : goal.invariant-loop-i
invariant-loop-i l = InOrder l.from l.to l.i
