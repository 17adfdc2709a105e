-- `known::keep` meets its contract: the vertices of the way that are passed have the head.
use Rattle.queries.specs.Looking.{Kept}
use Rattle.queries.proofs.known.keep.Given as goal

abbrev pub invariant-loop-u : goal.invariant-loop-u
invariant-loop-u l = Kept l.passed l.u-index l.h l.initial.known l.known
