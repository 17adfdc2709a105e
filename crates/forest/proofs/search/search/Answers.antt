-- `search::search` meets its contract.
use Prim.Native.Nat.{◌<◌}
use native.Mathlib.Omega.{arith}
use Rattle.forest.specs.Graphs.{IsLeft}
use Rattle.forest.proofs.Laws.Begins.{search_begun, search_first, searching_busy, still_busy, search_ended}
use Rattle.forest.proofs.search.search.Goals as goal
use Rattle.forest.proofs.search.search.Goals.{In-loop-at}

pub try_start-requires : goal.try_start-requires
try_start-requires c =
    let t = search_begun c.args.g.now c.requires.1 c.begin.ensures in
    (omega (arith, c.requires.1), record { roots = _; todo = _; left = _; searching = t })

pub loop-at-init : goal.loop-at-init
loop-at-init c =
    let g = c.args.g.now in
    let h = c.requires.1 in
    search_first g h c.try_start.result.cur (c.try_start.ensures _ _ _ (search_begun g h c.begin.ensures))

-- something is left to do
busy : (c : In-loop-at) → IsLeft c.args.g.now.n c.loop-at.at.i c.loop-at.at.hand
busy c = still_busy c.args.g.now c.requires.1 c.loop-at.at c.loop-at.invariant c.loop-at-test.true

pub step-at-requires : goal.step-at-requires
step-at-requires c = (
  busy (goal.at.step-at-requires c).In-loop-at,
  record { roots = _; todo = _; left = _; searching = c.loop-at.invariant },
)

-- so `left` is not used up
left_more : (c : In-loop-at) → 0 < c.loop-at.left
left_more c =
    searching_busy c.args.g.now c.loop-at.at.i c.loop-at.at.hand.cur c.loop-at.invariant (busy c)

pub overflow_sub-left : goal.overflow_sub-left
overflow_sub-left c = left_more (goal.at.overflow_sub-left c).In-loop-at

pub loop-at-smaller : goal.loop-at-smaller
loop-at-smaller c = let h = left_more (goal.at.loop-at-smaller c).In-loop-at in omega arith

pub returns : goal.returns
returns c = search_ended c.args.g.now c.requires.1 c.loop-at.at c.loop-at.invariant c.loop-at-test.false
