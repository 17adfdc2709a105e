-- `lows::own_low` meets its contract: before p every place is looked at.
use Rattle.forest.proofs.Laws.Lowest.{LowTo}
use Rattle.forest.proofs.lows.own_low.Given as goal

abbrev pub invariant-loop-p : goal.invariant-loop-p
invariant-loop-p l = LowTo l.g l.work l.c l.p l.own
