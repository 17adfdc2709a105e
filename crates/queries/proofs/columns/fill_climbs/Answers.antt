-- `columns::fill_climbs` meets its contract.
use Rattle.queries.proofs.Laws.Tabling.{built_ready, order_cell}
use native.Mathlib.Omega.{arith}
use Prim.Native.Nat.{◌<◌}
use mathlib.Core.Path.{◌≡◌}
use Rattle.queries.specs.Seen.{seen}
use Rattle.queries.proofs.columns.fill_climbs.Goals as goal
use Rattle.queries.proofs.columns.fill_climbs.Goals.{After-from-v}

-- the vertex at hand, and its stored number
at_hand : (c : After-from-v)
    → (c.from-v.result < c.args.b.now.indexed.layout.n)
    × ((seen c.args.b.now.indexed).stored c.from-v.result ≡ c.loop-x.x-index)
at_hand c =
    let inside : c.loop-x.x-index < c.args.b.now.indexed.layout.n =
    omega (arith, c.loop-x-test.true, c.requires.1.size) in
    order_cell (built_ready c.args.b.now) c.requires.1 inside c.from-v.ensures

pub place_of-p-requires : goal.place_of-p-requires
place_of-p-requires c =
    let (h, is) = at_hand (goal.at.place_of-p-requires c).After-from-v in
    (c.requires.0, h, rw is c.loop-x.invariant.1)

pub put-requires : goal.put-requires
put-requires c =
    let (h, _) = at_hand (goal.at.put-requires c).After-from-v in
    (omega (arith, h, c.loop-x.invariant.0.size), c.place_of-p.ensures.2)

pub put-requires-in-loop-x : goal.put-requires-in-loop-x
put-requires-in-loop-x c =
    let (h, _) = at_hand (goal.at.put-requires-in-loop-x c).After-from-v in
    (omega (arith, h, c.loop-x.invariant.1.size), c.place_of-p.ensures.3)
