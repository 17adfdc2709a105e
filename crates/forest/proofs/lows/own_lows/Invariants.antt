-- `lows::own_lows` meets its contract: the vertices before c have their numbers.
use Rattle.forest.specs.Graphs.{held}
use Rattle.forest.proofs.Laws.Lifted.{Filled}
use Rattle.forest.proofs.lows.own_lows.Given as goal

abbrev pub invariant-loop-c : goal.invariant-loop-c
invariant-loop-c l = Filled (held l.g) l.g.n l.g.s l.initial.work l.work l.c
