-- `visits::visited_in` meets its contract: the numbers that were read are others, up to the first that is not.
use Rattle.queries.specs.Steps.{Passed}
use Rattle.queries.proofs.visits.visited_in.Given as goal

abbrev pub invariant-loop-u : goal.invariant-loop-u
invariant-loop-u l = Passed l.i.index.now l.i.layout.n l.i.layout.m l.k l.u
