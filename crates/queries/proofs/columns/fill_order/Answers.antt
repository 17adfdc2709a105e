-- `columns::fill_order` meets its contract.
use Rattle.queries.proofs.Laws.Tabling.{built_ready, cells_put, stored_inside, stored_before}
use native.Mathlib.Omega.{arith}
use mathlib.Core.Path.{refl}
use Rattle.queries.proofs.columns.fill_order.Goals as goal

pub put-requires : goal.put-requires
put-requires c =
    let e = c.get.ensures.0 in
    let t = c.loop-v-test.true in
    let q = c.requires.0.cells c.loop-v.v t in
    let i = stored_inside (built_ready c.args.b.now) t in
    let s = c.loop-v.invariant.size in
    let f = c.args.b.now.indexed.framed.n_fits in
    (omega arith, omega arith)

pub loop-v-preserved : goal.loop-v-preserved
loop-v-preserved c =
    let r = built_ready c.args.b.now in
    let t = c.loop-v-test.true in
    let e = c.get.ensures.0 in
    let q = c.requires.0.cells c.loop-v.v t in
    cells_put c.loop-v.invariant (stored_before r t) (omega arith) (stored_inside r t) refl c.put.ensures
