-- `reverse::match_all` meets its contract: the parts passed are found again.
use Rattle.adjacency.specs.Reverse.{Matching}
use Rattle.adjacency.proofs.reverse.match_all.Given as goal

abbrev pub invariant-loop-u : goal.invariant-loop-u
invariant-loop-u l = Matching l.parts.starts.now l.parts.row.now l.next l.u
