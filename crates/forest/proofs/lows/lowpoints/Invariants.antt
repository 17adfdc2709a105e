-- `lows::lowpoints` meets its contract: the vertices of visit number k and more are lifted.
use Rattle.forest.specs.Graphs.{held}
use Rattle.forest.proofs.Laws.Lifted.{Swept}
use Rattle.forest.proofs.lows.lowpoints.Given as goal

abbrev pub invariant-loop-k : goal.invariant-loop-k
invariant-loop-k l = Swept (held l.g) l.g.n l.g.s l.initial.work l.work l.k
