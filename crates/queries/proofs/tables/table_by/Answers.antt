-- `tables::table_by` meets its contract: Build's rules, which are Table's, and then the lists.
use Rattle.std.proofs.lemmas.Result.{err_from_is_err_and}
use Rattle.queries.specs.Table.{Columns, columns}
use Rattle.queries.proofs.Laws.TableRules.{Made, table_refused, table_made, table_fits, table_done, lists_fit}
use Rattle.queries.proofs.tables.table_by.Goals as goal
use Rattle.queries.proofs.tables.table_by.Goals.{In_ok-build, Start}

abbrev lent : Start → Columns
lent s = columns s.args.visits.now s.args.parents.now s.args.counts.now s.args.heads.now

-- Build has written the index
made : (c : In_ok-build)
    → let a = c.args in
    Made a.layout.now.bytes.now a.start.0 c.build.new.index a.layout.now.n a.layout.now.m
made c =
    let a = c.args in
    table_made a.layout.now.bytes.now a.start.0 a.work.now
    (columns a.visits.now a.parents.now a.counts.now a.heads.now) a.layout.now.sound a.index.now c.requires
    c.in_ok-build.ensures.0 c.build.ensures.1

pub returns-in_err-build : goal.returns-in_err-build
returns-in_err-build c =
    let a = c.args in
    let p = err_from_is_err_and c.from_residual.result c.from_residual.ensures.1 in
    let d =
    table_refused a.layout.now.bytes.now a.start.0 a.work.now (lent (goal.at.returns-in_err-build c).Start)
    a.layout.now.sound a.index.now c.requires c.in_err-build.ensures.0 in
    rw (p.1, p.2) d

pub invariant_of-indexed : goal.invariant_of-indexed
invariant_of-indexed c = record { framed = (made (goal.at.invariant_of-indexed c).In_ok-build).framed }

pub invariant_of-built : goal.invariant_of-built
invariant_of-built c =
    let b = made (goal.at.invariant_of-built c).In_ok-build in
    record { accepted = b.accepted; taken = b.taken; is = b.is }

pub fill_lists-requires : goal.fill_lists-requires
fill_lists-requires c =
    let a = c.args in
    lists_fit a.layout.now.n a.visits.now a.parents.now a.counts.now a.heads.now
    (table_fits a.layout.now.bytes.now a.start.0 a.work.now (lent (goal.at.fill_lists-requires c).Start)
    a.layout.now.sound a.index.now c.requires c.in_ok-build.ensures.0)

pub returns : goal.returns
returns c =
    let a = c.args in
    table_done a.layout.now.bytes.now a.start.0 a.work.now (lent (goal.at.returns c).Start) a.layout.now.sound
    a.index.now c.requires c.in_ok-build.ensures.0 c.build.ensures.1 c.fill_lists.ensures
