-- `header::laid_out` meets its contract: order R first, and then rule 5.
use mathlib.Core.Path.{sym, ap, ◌∙◌}
use Rattle.record.specs.Rules.{order_r, spare_set, layout_rules}
use Rattle.record.specs.Sized.{sizes_of}
use Rattle.record.specs.Laws.Told.{exit_told, told_append}
use Rattle.record.proofs.Laws.Reading.Headers.{layout_spare, layout_kept}
use Rattle.record.proofs.header.laid_out.Goals as goal

pub returns-in_err-layout-clause-sizes : goal.returns-in_err-layout-clause-sizes
unfolding layout_rules
returns-in_err-layout-clause-sizes c =
    let bytes = c.args.bytes.now in
    exit_told _ _ _ c.from_residual.ensures.1
    ∙ told_append (order_r bytes) _ (sizes_of bytes) (sizes_of bytes) c.in_err-layout.ensures.sizes

pub returns-then-spare_set-clause-sizes : goal.returns-then-spare_set-clause-sizes
returns-then-spare_set-clause-sizes c =
    let order = c.in_ok-layout.ensures in
    layout_spare c.args.bytes.now order.sizes
    (ap spare_set (sym order.same) ∙ sym c.spare_set.ensures ∙ c.if-spare_set.true)

pub returns-clause-sizes : goal.returns-clause-sizes
returns-clause-sizes c =
    let order = c.in_ok-layout.ensures in
    layout_kept c.args.bytes.now order.sizes
    (ap spare_set (sym order.same) ∙ sym c.spare_set.ensures ∙ c.if-spare_set.false)
