-- `climbs::ancestor_turn` meets its contract.
use native.Mathlib.Omega.{arith}
use Rattle.queries.proofs.Laws.Climbing.{starts_long}
use Rattle.queries.proofs.climbs.ancestor_turn.Goals as goal

pub get-requires : goal.get-requires
get-requires c =
    let a = c.args.a.now in
    omega (arith, starts_long a.indexed.layout.sound a.are_starts, c.requires)

pub get-requires-2 : goal.get-requires-2
get-requires-2 c =
    let a = c.args.a.now in
    omega (arith, starts_long a.indexed.layout.sound a.are_starts, c.requires)
