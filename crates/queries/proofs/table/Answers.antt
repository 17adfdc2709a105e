-- `table` meets its contract: order R first, and then the rest.
use Rattle.std.proofs.lemmas.Result.{err_from_is_err_and}
use Rattle.queries.specs.Table.{columns}
use Rattle.queries.proofs.Laws.TableRules.{table_unread, table_read}
use Rattle.queries.proofs.table.Goals as goal

pub returns-in_err-layout : goal.returns-in_err-layout
returns-in_err-layout c =
    let a = c.args in
    let p = err_from_is_err_and c.from_residual.result c.from_residual.ensures.1 in
    let d =
    table_unread a.bytes.now a.start.0 a.work.now
    (columns a.visits.now a.parents.now a.counts.now a.heads.now) c.in_err-layout.ensures.sizes in
    rw (p.1, p.2) d

pub returns : goal.returns
returns c =
    let a = c.args in
    table_read a.bytes.now a.start.0 a.work.now (columns a.visits.now a.parents.now a.counts.now a.heads.now)
    c.in_ok-layout.ensures.same c.table_in.ensures
