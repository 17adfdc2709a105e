-- `search::pass_visited` meets its contract: up to p all places lead to visited vertices.
use Prim.Native.Nat.{◌≤◌}
use Rattle.forest.specs.Steps.{AllVisited}
use Rattle.forest.proofs.search.pass_visited.Given as goal

abbrev pub invariant-loop-p : goal.invariant-loop-p
invariant-loop-p l = (l.from ≤ l.p) × AllVisited l.g.nbrs.now l.g.s l.work l.from l.p
