-- `lookup` meets its contract: order R and rule 10 first, and then the rest.
use Rattle.std.proofs.lemmas.Result.{err_from_is_err_and}
use Rattle.queries.specs.Lookup.{lists}
use Rattle.queries.proofs.Laws.Looking.{lookup_unread, lookup_read}
use Rattle.queries.proofs.lookup.Goals as goal

pub returns-in_err-i : goal.returns-in_err-i
returns-in_err-i c =
    let a = c.args in
    let p = err_from_is_err_and c.from_residual.result c.from_residual.ensures.1 in
    let d =
    lookup_unread a.bytes.now a.index.now a.list.now (lists a.heads.now a.visits.now) (a.bytes.now, a.index.now)
    c.in_err-i.ensures in
    rw (p.1, p.2) d

pub returns : goal.returns
returns c =
    let a = c.args in
    lookup_read a.bytes.now a.index.now a.list.now (lists a.heads.now a.visits.now) c.in_ok-i.ensures
    c.lookup_in.ensures
