-- `cells::copy` meets its contract: the list is filled from the front.
use mathlib.Core.Path.{refl}
use native.Mathlib.Omega.{arith}
use Rattle.adjacency.specs.Laws.InOrder.{order_more}
use Rattle.adjacency.proofs.cells.copy.Goals as goal

pub loop-i-preserved : goal.loop-i-preserved
loop-i-preserved c = order_more c.loop-i.invariant _ refl refl (omega arith)
