-- `search::try_next` meets its contract.
use Prim.Native.Nat.{◌+◌}
use native.Mathlib.Omega.{arith}
use borrow.Author.Rules.{rules}
use Rattle.adjacency.specs.Laws.Rows.{starts_fit}
use Rattle.forest.proofs.Laws.Stepping.{place_fits, next_fits, next_left, next_entered}
use Rattle.forest.proofs.search.try_next.Goals as goal

-- the end of the block
pub pass_visited-p-requires : goal.pass_visited-p-requires
pass_visited-p-requires c =
    let g = c.args.g.now in
    let f = starts_fit g.arrays.divided (c.args.u + 1) (omega (arith, g.sized)) in
    (c.requires.1.searching.tied.room, omega arith)

pub get-v-requires : goal.get-v-requires
get-v-requires c =
    (place_fits c.args.g.now c.requires.1.searching c.get-from.ensures.0 c.get-end.ensures.0 c.if-p-end.true).0

-- the neighbour at the next place, which is to be entered
pub enter-requires : goal.enter-requires
enter-requires c =
    let g = c.args.g.now in
    let t = c.requires.1.searching in
    let h = c.if-p-end.true in
    let p = place_fits g t c.get-from.ensures.0 c.get-end.ensures.0 h in
    let f = next_fits g t c.get-from.ensures.0 c.get-end.ensures.0 c.pass_visited-p.ensures h c.get-v.ensures.0 in
    record { room = search rules; fits = (f.0, f.1, omega arith, p.1) }

pub returns-then-p-end : goal.returns-then-p-end
returns-then-p-end c = λ roots todo left t.
    next_entered c.args.g.now t c.get-from.ensures.0 c.get-end.ensures.0 c.pass_visited-p.ensures c.if-p-end.true
    c.get-v.ensures.0 c.put.ensures c.enter.ensures

pub returns-else-p-end : goal.returns-else-p-end
returns-else-p-end c = λ roots todo left t.
    next_left c.args.g.now t c.get-from.ensures.0 c.get-end.ensures.0 c.pass_visited-p.ensures c.if-p-end.false
    c.get.ensures.0
