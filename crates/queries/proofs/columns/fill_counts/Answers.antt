-- `columns::fill_counts` meets its contract.
use Rattle.queries.proofs.Laws.Tabling.{cells_put, apart_self, block_span, count_cell, count_small}
use Rattle.queries.proofs.Laws.Climbing.{beside, starts_long}
use native.Mathlib.Omega.{arith}
use mathlib.Core.Path.{refl}
use Rattle.queries.proofs.columns.fill_counts.Goals as goal

pub get-from-requires : goal.get-from-requires
get-from-requires c =
    let a = c.args.a.now in
    omega (arith, starts_long a.indexed.layout.sound a.are_starts, c.loop-v-test.true)

pub get-to-requires : goal.get-to-requires
get-to-requires c =
    let a = c.args.a.now in
    omega (arith, starts_long a.indexed.layout.sound a.are_starts, c.loop-v-test.true)

pub overflow_sub-to : goal.overflow_sub-to
overflow_sub-to c =
    let a = c.args.a.now in
    (block_span (beside a.indexed) a.are_starts c.loop-v-test.true c.get-from.ensures.0 c.get-to.ensures.0).0

pub count_children-requires : goal.count_children-requires
count_children-requires c =
    let a = c.args.a.now in
    let t = c.loop-v-test.true in
    let (p, q) = block_span (beside a.indexed) a.are_starts t c.get-from.ensures.0 c.get-to.ensures.0 in
    omega (arith, a.indexed.framed.n_fits)

pub put-requires : goal.put-requires
put-requires c =
    let a = c.args.a.now in
    let t = c.loop-v-test.true in
    let s = c.loop-v.invariant.size in (
      omega arith,
      count_small (beside a.indexed) a.are_starts t c.get-from.ensures.0 c.get-to.ensures.0 c.count_children.ensures,
    )

pub loop-v-preserved : goal.loop-v-preserved
loop-v-preserved c =
    let a = c.args.a.now in
    let t = c.loop-v-test.true in
    let e =
    count_cell (beside a.indexed) a.are_starts t c.get-from.ensures.0 c.get-to.ensures.0 c.count_children.ensures in
    cells_put c.loop-v.invariant apart_self refl t e c.put.ensures
