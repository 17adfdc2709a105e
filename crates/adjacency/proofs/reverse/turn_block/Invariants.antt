-- `reverse::turn_block` meets its contract: the places passed are turned round.
use Rattle.adjacency.specs.Reverse.{Turning}
use Rattle.adjacency.proofs.reverse.turn_block.Given as goal

abbrev pub invariant-loop-p : goal.invariant-loop-p
invariant-loop-p l = Turning l.lists.starts.now l.lists.nbrs.now l.reverse l.next l.u l.p
