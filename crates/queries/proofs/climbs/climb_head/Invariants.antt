-- `climbs::climb_head` meets its contract: what is left of the climb answers as the whole does.
use mathlib.Core.Path.{◌≡◌}
use Prim.Native.Nat.{◌-◌, ◌<◌}
use Rattle.record.specs.Answers.{refused}
use Rattle.queries.specs.Queries.{head_next, head_of}
use Rattle.queries.specs.Seen.{seen}
use Rattle.queries.proofs.Laws.Climbing.{climb}
use Rattle.queries.proofs.climbs.climb_head.Given as goal

abbrev pub invariant-loop : goal.invariant-loop
invariant-loop l =
    let i = l.a.indexed in
    (l.u < i.layout.n)
    × (climb (head_next (seen i)) (refused 12) (i.layout.n - l.counter) l.u ≡ head_of (seen i) l.v)
