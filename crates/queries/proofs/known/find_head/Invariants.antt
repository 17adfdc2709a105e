-- `known::find_head` meets its contract: the heads that are known stay so, and those on the way get the head of where
-- it leads.
use Rattle.queries.specs.Seen.{seen}
use Rattle.queries.proofs.Laws.Knowing.{Climbed}
use Rattle.queries.proofs.known.find_head.Given as goal

abbrev pub invariant-loop-k : goal.invariant-loop-k
invariant-loop-k l = Climbed (seen l.a.indexed) l.a.indexed.layout.n l.v l.known l.way l.u l.k
