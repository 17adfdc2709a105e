-- `visits::pass_fours` meets its contract: the numbers that were read are others.
use Prim.Native.Nat.{◌*◌}
use Rattle.queries.specs.Steps.{Passed}
use Rattle.queries.proofs.visits.pass_fours.Given as goal

abbrev pub invariant-loop-j : goal.invariant-loop-j
invariant-loop-j l = Passed l.i.index.now l.i.layout.n l.i.layout.m l.k (4 * l.j)
