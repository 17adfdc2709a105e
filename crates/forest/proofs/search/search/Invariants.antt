-- `search::search` meets its contract.
use Rattle.forest.proofs.Laws.Begins.{From}
use Rattle.forest.proofs.search.search.Given as goal

abbrev pub invariant-loop-at : goal.invariant-loop-at
invariant-loop-at l = From l.g l.first l.work l.left l.at

abbrev pub decreases-loop-at : goal.decreases-loop-at
decreases-loop-at l = l.left
