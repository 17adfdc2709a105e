-- `order::order_q` meets its contract: order R and rule 10 first, and then rule 11.
use mathlib.Core.Path.{◌∙◌}
use Rattle.record.specs.Laws.Told.{exit_told}
use Rattle.queries.proofs.Laws.Ordered.{beside_refused, number_outside, order_passed}
use Rattle.queries.proofs.order.order_q.Goals as goal

pub returns-in_err-i : goal.returns-in_err-i
returns-in_err-i c =
    let args = c.args in
    exit_told _ _ _ c.from_residual.ensures.1
    ∙ beside_refused args.bytes.now args.index.now args.k c.in_err-i.ensures

pub returns-then-out_of_range : goal.returns-then-out_of_range
returns-then-out_of_range c =
    let args = c.args in
    number_outside args.bytes.now args.index.now args.k c.in_ok-i.i c.in_ok-i.ensures
    c.out_of_range.ensures c.if-out_of_range.true

pub returns : goal.returns
returns c =
    let args = c.args in
    order_passed args.bytes.now args.index.now args.k c.in_ok-i.i c.in_ok-i.ensures
    c.out_of_range.ensures c.if-out_of_range.false
