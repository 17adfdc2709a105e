-- `marks::mark_bridges` meets its contract: the marks of the vertices before c are there.
use Rattle.forest.specs.Graphs.{held}
use Rattle.forest.proofs.Laws.Bridged.{Bridging}
use Rattle.forest.proofs.marks.mark_bridges.Given as goal

abbrev pub invariant-loop-c : goal.invariant-loop-c
invariant-loop-c l = Bridging (held l.g) l.g.n l.g.s l.work l.initial.section l.section l.c
