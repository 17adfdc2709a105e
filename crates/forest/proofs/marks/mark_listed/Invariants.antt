-- `marks::mark_listed` meets its contract: the bits of the list so far are set.
use Rattle.forest.proofs.Laws.Listed.{Marking}
use Rattle.forest.proofs.marks.mark_listed.Given as goal

abbrev pub invariant-loop-bit : goal.invariant-loop-bit
invariant-loop-bit l = Marking l.list l.initial.section l.section l.bit-index
