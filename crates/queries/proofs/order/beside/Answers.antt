-- `order::beside` meets its contract: order R first, and then rule 10.
use mathlib.Core.Path.{◌∙◌}
use Rattle.record.specs.Sized.{sizes_of}
use Rattle.record.specs.Laws.Told.{exit_told}
use Rattle.queries.proofs.Laws.Ordered.{record_refused, index_misfit, index_fits}
use Rattle.queries.proofs.order.beside.Goals as goal

pub returns-in_err-layout : goal.returns-in_err-layout
returns-in_err-layout c =
    let args = c.args in
    exit_told _ _ _ c.from_residual.ensures.1
    ∙ record_refused args.bytes.now args.index.now (sizes_of args.bytes.now) c.in_err-layout.ensures.sizes

pub index_length-requires : goal.index_length-requires
index_length-requires c = let o = c.in_ok-layout.layout.sound in (o.n_fits, o.m_fits)

pub returns-then-index-index_length : goal.returns-then-index-index_length
returns-then-index-index_length c =
    let args = c.args in
    index_misfit args.bytes.now args.index.now c.in_ok-layout.layout c.in_ok-layout.ensures.same
    c.index_length.ensures c.if-index-index_length.true

pub returns : goal.returns
returns c =
    let args = c.args in
    index_fits args.bytes.now args.index.now c.in_ok-layout.layout c.in_ok-layout.ensures.same
    c.index_length.ensures c.if-index-index_length.false
