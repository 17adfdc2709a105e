-- `lookups::look_all` meets its contract: the terminals before cell i are answered.
use mathlib.Core.Path.{◌≡◌}
use lib.ListN.{length}
use Rattle.queries.specs.Seen.{seen}
use Rattle.queries.specs.Lookup.{lists}
use Rattle.queries.specs.Looking.{Known}
use Rattle.queries.proofs.Laws.Looking.{LookingAt}
use Rattle.queries.proofs.lookups.look_all.Given as goal

abbrev pub invariant-loop-i : goal.invariant-loop-i
invariant-loop-i l =
    (Known (seen l.a.indexed) l.a.indexed.layout.n l.known)
    × (length l.way ≡ l.a.indexed.layout.n)
    × (LookingAt l.a.indexed.layout.bytes.now l.a.indexed.index.now l.list (lists l.heads l.visits) l.i)
