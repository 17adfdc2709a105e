-- `reverse::turn_all` meets its contract: the blocks passed are turned round.
use Rattle.adjacency.specs.Reverse.{TurnedBefore}
use Rattle.adjacency.proofs.reverse.turn_all.Given as goal

abbrev pub invariant-loop-u : goal.invariant-loop-u
invariant-loop-u l = TurnedBefore l.lists.starts.now l.lists.nbrs.now l.reverse l.next l.u
