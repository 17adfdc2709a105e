-- `numbers::write_numbers` meets its contract: the numbers of the first i pairs are written.
use Rattle.forest.proofs.Laws.Numbers.{Pairs}
use Rattle.forest.proofs.numbers.write_numbers.Given as goal

abbrev pub invariant-loop-i : goal.invariant-loop-i
invariant-loop-i l = Pairs l.visits l.section l.i
