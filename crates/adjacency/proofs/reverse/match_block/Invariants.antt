-- `reverse::match_block` meets its contract: the places passed are found again.
use Rattle.adjacency.specs.Reverse.{Turned}
use Rattle.adjacency.proofs.reverse.match_block.Given as goal

abbrev pub invariant-loop-p : goal.invariant-loop-p
invariant-loop-p l = Turned l.parts.starts.now l.parts.row.now l.parts.row.now l.next l.p
